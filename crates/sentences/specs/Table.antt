-- The sentences as the code keeps them: a text of lines, with % for a first number and & for a second. Only connecting.
use Rattle.std.specs.Prelude.{ℕ, Option, Some, None, zero, suc, ◌+◌, List, [], ◌∷◌, ◌++◌, cond, eqb}
use Rattle.expression.specs.declared.refusal.Refusal.{Refusal}
use Rattle.expression.specs.declared.refusal.Operation.{Operation}
use Rattle.expression.specs.Refusals.{number_of, Carried, place, lacking, carries, place_of}
use Rattle.text.specs.Letters.{bytes, letter}
use Rattle.text.specs.Reading.{lf}
use Rattle.text.specs.Writing.{in_decimal}
use Rattle.faults.specs.declared.Fault.{Fault}
use Rattle.faults.specs.Faulting.{from_line}
use Rattle.lacks.specs.declared.Missing.{Missing}
use Rattle.sentences.specs.declared.Detail.{Detail}
use Rattle.sentences.specs.declared.Entry.{Entry}
use Rattle.sentences.specs.Sentences.{from_one}

abbrev pub table : List ℕ
table =
    bytes "The input is too long: it may have 262,144 bytes.\n" ++
    (bytes "The listing's line % is malformed.\n" ++
    (bytes "The listing's line % is one too many: a listing has at most 1024 node lines and 256 s lines.\n" ++
    (bytes "The sheet's line %, counted after the empty line, is malformed.\n" ++
    (bytes "The sheet's line %, counted after the empty line, is one too many: a sheet has at most 256 v lines, 1024 m lines and 256 t lines.\n" ++
    (bytes "The limit is above 10.\n" ++
    (bytes "The expression is too big: a part of it has a size above 1,000,000.\n" ++
    (bytes "The expression is too deep: a part of it has a depth above 64.\n" ++
    (bytes "The store is full: the job makes more nodes than it has room for.\n" ++
    (bytes "The sheet lacks a function value.\n" ++
    (bytes "The sheet does not bind every variable and memory cell that the expression has.\n" ++
    (bytes "The number is not real: its imaginary part is not below 1e-16 in magnitude.\n" ++
    (bytes "The expression is neither a number nor pi.\n" ++
    (bytes "The output has too little room for the result.\n" ++
    (bytes "The expression is too long for a tape: its size is above 512.\n" ++
    (bytes "The tape's step % is missing, malformed or unsound.\n" ++
    (bytes "The name sheet's line % is malformed, repeats a name or a number, or is not ended by a line feed.\n" ++
    (bytes "Line % has a name without a number in the name sheet, or a number without a name.\n" ++
    (bytes "There is no such rule book.\n" ++
    (bytes "There are more than 4096 listings.\n" ++
    (bytes "A number is not written as Quil text: it is NaN, infinite, nonzero and below 1e-4, or not below 1e15.\n" ++
    (bytes "The listing's line % has a byte, a name or a number that does not belong there.\n" ++
    (bytes "The listing's line % lacks a field, or has one that is cut short.\n" ++
    (bytes "The listing's line % has a hex digit in lower case: a double is 16 digits from 0 to 9 and A to F.\n" ++
    (bytes "The listing's line % has a carriage return: a line ends in a line feed alone.\n" ++
    (bytes "The listing's line % is out of order: it names a line that does not come before it, or s lines, which only substitute takes, are not last and ascending.\n" ++
    (bytes "The listing's line % is not ended by a line feed.\n" ++
    (bytes "The listing has no node line.\n" ++
    (bytes "The sheet's line %, counted after the empty line, has a byte, a name or a number that does not belong there.\n" ++
    (bytes "The sheet's line %, counted after the empty line, lacks a field, or has one that is cut short.\n" ++
    (bytes "The sheet's line %, counted after the empty line, has a hex digit in lower case: a double is 16 digits from 0 to 9 and A to F.\n" ++
    (bytes "The sheet's line %, counted after the empty line, has a carriage return: a line ends in a line feed alone.\n" ++
    (bytes "The sheet's line %, counted after the empty line, is out of order: v lines come first, then m lines, then t lines; v and m lines ascend.\n" ++
    (bytes "The sheet's line %, counted after the empty line, is not ended by a line feed.\n" ++
    (bytes "The sheet's line %, counted after the empty line, is missing.\n" ++
    (bytes "The sheet does not bind variable %.\n" ++
    (bytes "The sheet does not bind the memory cell of region % and index &.\n" ++
    (bytes "The sheet has no row for sin of the operands printed: add a t row with this name, the four fields and the value.\n" ++
    (bytes "The sheet has no row for cos of the operands printed: add a t row with this name, the four fields and the value.\n" ++
    (bytes "The sheet has no row for exp of the operands printed: add a t row with this name, the four fields and the value.\n" ++
    (bytes "The sheet has no row for sqrt of the operands printed: add a t row with this name, the four fields and the value.\n" ++
    (bytes "The sheet has no row for pow of the operands printed: add a t row with this name, the four fields and the value.\n" ++
    (bytes "The result has more than 1024 lines.\n" ++
    (bytes "The tape's step 1 is missing, malformed or unsound, or there are more than 512 steps.\n" ++
    (bytes "The expression was simplified in % calls.\n" ++
    (bytes "The expression was simplified in 1 call.\n" ++
    (bytes "The listing's line % is empty: this command takes no sheet of values.\n"))))))))))))))))))))))))))))))))))))))))))))))

-- what a byte of a line says
abbrev pub piece : (first second b : ℕ) → List ℕ
piece first second b = cond (eqb b (letter "%")) (in_decimal first) (cond (eqb b (letter "&")) (in_decimal second) (b ∷ []))

-- the sentence that begins here
unfoldable pub filled : (first second : ℕ) → List ℕ → List ℕ
filled first second [] = []
filled first second (b ∷ bs) = piece first second b ++ cond (eqb b lf) [] (filled first second bs)

-- ---- which line of the table, and its numbers

abbrev pub of : (line first second : ℕ) → Entry
of line first second = record { line = line; first = first; second = second }

abbrev pub need_line : Operation → ℕ
need_line Operation.Sine = 37
need_line Operation.Cosine = 38
need_line Operation.Exponent = 39
need_line Operation.SquareRoot = 40
need_line Operation.Power = 41

-- of 2 and 15 the place 0 has a sentence of its own
abbrev pub placed_line : (number at : ℕ) → ℕ
placed_line number zero = cond (eqb number 2) 42 (cond (eqb number 15) 43 number)
placed_line number (suc k) = number

abbrev pub plain_line : (number : ℕ) → Carried → ℕ
plain_line number (place k) = placed_line number k
plain_line number (lacking operation x y) = need_line operation

abbrev pub fault_code : Fault → ℕ
fault_code Fault.WrongByte = 0
fault_code Fault.FieldMissing = 1
fault_code Fault.HexCase = 2
fault_code Fault.CarriageReturn = 3
fault_code Fault.Order = 4
fault_code Fault.NoLineFeed = 5
fault_code Fault.NoLine = 6

abbrev pub missing_entry : Option Missing → Entry
missing_entry None = of 10 0 0
missing_entry (Some (Missing.Variable v)) = of 35 v 0
missing_entry (Some (Missing.Cell region index)) = of 36 region index

abbrev pub fault_line : (number : ℕ) → Fault → ℕ
fault_line number fault = cond (eqb number 1) 21 28 + fault_code fault

abbrev pub entry : Refusal → Detail → Entry
entry why Detail.Plain = of (plain_line (number_of why) (carries why)) (from_one (place_of why)) 0
entry why (Detail.Fault fault) = of (fault_line (number_of why) fault) (from_one (place_of why)) 0
entry why (Detail.Missing missing) = missing_entry missing
entry why Detail.Sheet = of 46 (from_one (place_of why)) 0

abbrev pub calls_entry : (calls : ℕ) → Entry
calls_entry calls = of (cond (eqb calls 1) 45 44) calls 0

-- what a row says
abbrev pub says : Entry → List ℕ
says r = filled r.first r.second (from_line r.line table)
