-- What is said on standard error: which sentence belongs to which refusal. Lines and steps count from 1 there. Definitions only.
use Rattle.std.specs.Prelude.{ℕ, Option, Some, None, zero, suc, List, ◌++◌, Bool, cond, ltb, eqb}
use Rattle.expression.specs.declared.refusal.Operation.{Operation}
use Rattle.expression.specs.declared.refusal.Refusal.{Refusal}
use Rattle.expression.specs.Refusals.{number_of, place_of}
use Rattle.text.specs.Letters.{bytes}
use Rattle.text.specs.Writing.{in_decimal}
use Rattle.faults.specs.declared.Fault.{Fault}
use Rattle.lacks.specs.declared.Missing.{Missing}
use Rattle.sentences.specs.declared.Detail.{Detail}

-- a place from 1; the last number of 64 bits, which no place is, stays
abbrev pub from_one : ℕ → ℕ
from_one place = cond (ltb place 18446744073709551615) (suc place) place

-- a number between two parts of a sentence, and a line or a step by its place from 0
abbrev pub numbered : (before : List ℕ) (n : ℕ) (after : List ℕ) → List ℕ
numbered before n after = before ++ (in_decimal n ++ after)

abbrev pub placed : (before : List ℕ) (place : ℕ) (after : List ℕ) → List ℕ
placed before place after = numbered before (from_one place) after

-- ---- a refusal by itself

unfoldable pub need_sentence : Operation → List ℕ
need_sentence Operation.Sine = bytes "The sheet has no row for sin of the operands printed: add a t row with this name, the four fields and the value.\n"
need_sentence Operation.Cosine = bytes "The sheet has no row for cos of the operands printed: add a t row with this name, the four fields and the value.\n"
need_sentence Operation.Exponent = bytes "The sheet has no row for exp of the operands printed: add a t row with this name, the four fields and the value.\n"
need_sentence Operation.SquareRoot = bytes "The sheet has no row for sqrt of the operands printed: add a t row with this name, the four fields and the value.\n"
need_sentence Operation.Power = bytes "The sheet has no row for pow of the operands printed: add a t row with this name, the four fields and the value.\n"

-- a line that is one too many is never the first
unfoldable pub long_sentence : (line : ℕ) → List ℕ
long_sentence zero = bytes "The result has more than 1024 lines.\n"
long_sentence (suc line) = placed (bytes "The listing's line ") (suc line) (bytes " is one too many: a listing has at most 1024 node lines and 256 s lines.\n")

unfoldable pub tape_sentence : (step : ℕ) → List ℕ
tape_sentence zero = bytes "The tape's step 1 is missing, malformed or unsound, or there are more than 512 steps.\n"
tape_sentence (suc step) = placed (bytes "The tape's step ") (suc step) (bytes " is missing, malformed or unsound.\n")

unfoldable pub plain_sentence : Refusal → List ℕ
plain_sentence (Refusal.BadList line) = placed (bytes "The listing's line ") line (bytes " is malformed.\n")
plain_sentence (Refusal.LongList line) = long_sentence line
plain_sentence (Refusal.BadSheet line) = placed (bytes "The sheet's line ") line (bytes ", counted after the empty line, is malformed.\n")
plain_sentence (Refusal.LongSheet line) = placed (bytes "The sheet's line ") line (bytes ", counted after the empty line, is one too many: a sheet has at most 256 v lines, 1024 m lines and 256 t lines.\n")
plain_sentence Refusal.BadLimit = bytes "The limit is above 10.\n"
plain_sentence Refusal.Big = bytes "The expression is too big: a part of it has a size above 1,000,000.\n"
plain_sentence Refusal.Deep = bytes "The expression is too deep: a part of it has a depth above 64.\n"
plain_sentence Refusal.Room = bytes "The store is full: the job makes more nodes than it has room for.\n"
plain_sentence (Refusal.Need operation x y) = need_sentence operation
plain_sentence Refusal.Incomplete = bytes "The sheet does not bind every variable and memory cell that the expression has.\n"
plain_sentence Refusal.NotReal = bytes "The number is not real: its imaginary part is not below 1e-16 in magnitude.\n"
plain_sentence Refusal.NotANumber = bytes "The expression is neither a number nor pi.\n"
plain_sentence Refusal.OutRoom = bytes "The output has too little room for the result.\n"
plain_sentence Refusal.LongTape = bytes "The expression is too long for a tape: its size is above 512.\n"
plain_sentence (Refusal.BadTape step) = tape_sentence step
plain_sentence (Refusal.BadNames line) = placed (bytes "The name sheet's line ") line (bytes " is malformed, repeats a name or a number, or is not ended by a line feed.\n")
plain_sentence (Refusal.UnknownName line) = placed (bytes "Line ") line (bytes " has a name without a number in the name sheet, or a number without a name.\n")
plain_sentence Refusal.BadBook = bytes "There is no such rule book.\n"
plain_sentence (Refusal.Many listing) = bytes "There are more than 4096 listings.\n"
plain_sentence Refusal.NoText = bytes "A number is not written as Quil text: it is NaN, infinite, nonzero and below 1e-4, or not below 1e15.\n"

-- ---- of 1 and 3, what is wrong with the line

unfoldable pub listing_sentence : (line : ℕ) → Fault → List ℕ
listing_sentence line Fault.WrongByte = placed (bytes "The listing's line ") line (bytes " has a byte, a name or a number that does not belong there.\n")
listing_sentence line Fault.FieldMissing = placed (bytes "The listing's line ") line (bytes " lacks a field, or has one that is cut short.\n")
listing_sentence line Fault.HexCase = placed (bytes "The listing's line ") line (bytes " has a hex digit in lower case: a double is 16 digits from 0 to 9 and A to F.\n")
listing_sentence line Fault.CarriageReturn = placed (bytes "The listing's line ") line (bytes " has a carriage return: a line ends in a line feed alone.\n")
listing_sentence line Fault.Order = placed (bytes "The listing's line ") line (bytes " is out of order: it names a line that does not come before it, or s lines, which only substitute takes, are not last and ascending.\n")
listing_sentence line Fault.NoLineFeed = placed (bytes "The listing's line ") line (bytes " is not ended by a line feed.\n")
listing_sentence line Fault.NoLine = bytes "The listing has no node line.\n"

unfoldable pub sheet_sentence : (line : ℕ) → Fault → List ℕ
sheet_sentence line Fault.WrongByte = placed (bytes "The sheet's line ") line (bytes ", counted after the empty line, has a byte, a name or a number that does not belong there.\n")
sheet_sentence line Fault.FieldMissing = placed (bytes "The sheet's line ") line (bytes ", counted after the empty line, lacks a field, or has one that is cut short.\n")
sheet_sentence line Fault.HexCase = placed (bytes "The sheet's line ") line (bytes ", counted after the empty line, has a hex digit in lower case: a double is 16 digits from 0 to 9 and A to F.\n")
sheet_sentence line Fault.CarriageReturn = placed (bytes "The sheet's line ") line (bytes ", counted after the empty line, has a carriage return: a line ends in a line feed alone.\n")
sheet_sentence line Fault.Order = placed (bytes "The sheet's line ") line (bytes ", counted after the empty line, is out of order: v lines come first, then m lines, then t lines; v and m lines ascend.\n")
sheet_sentence line Fault.NoLineFeed = placed (bytes "The sheet's line ") line (bytes ", counted after the empty line, is not ended by a line feed.\n")
sheet_sentence line Fault.NoLine = placed (bytes "The sheet's line ") line (bytes ", counted after the empty line, is missing.\n")

-- ---- of 10, what the sheet does not bind; and where an empty line stands in a text that is a listing alone, that no sheet is taken

unfoldable pub missing_sentence : Option Missing → List ℕ
missing_sentence None = bytes "The sheet does not bind every variable and memory cell that the expression has.\n"
missing_sentence (Some (Missing.Variable v)) = numbered (bytes "The sheet does not bind variable ") v (bytes ".\n")
missing_sentence (Some (Missing.Cell region index)) = numbered (bytes "The sheet does not bind the memory cell of region ") region (numbered (bytes " and index ") index (bytes ".\n"))

unfoldable pub sentence : Refusal → Detail → List ℕ
sentence why Detail.Plain = plain_sentence why
sentence why (Detail.Fault fault) = cond (eqb (number_of why) 1) (listing_sentence (place_of why) fault) (sheet_sentence (place_of why) fault)
sentence why (Detail.Missing missing) = missing_sentence missing
sentence why Detail.Sheet = placed (bytes "The listing's line ") (place_of why) (bytes " is empty: this command takes no sheet of values.\n")

-- ---- what is said besides

abbrev pub too_long_sentence : List ℕ
too_long_sentence = bytes "The input is too long: it may have 262,144 bytes.\n"

-- how many simplify calls a result took
abbrev pub calls_words : (one : Bool) (calls : ℕ) → List ℕ
calls_words one calls = cond one (bytes "The expression was simplified in 1 call.\n") (numbered (bytes "The expression was simplified in ") calls (bytes " calls.\n"))

unfoldable pub calls_sentence : (calls : ℕ) → List ℕ
calls_sentence calls = calls_words (eqb calls 1) calls
