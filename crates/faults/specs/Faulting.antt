-- Which fault a line of a listing or of a sheet has that was refused: the first field that does not read says it, by the first byte that is not
-- as it is due. Built of the readers' own definitions. Definitions only.
use Rattle.std.specs.Prelude.{ℕ, zero, suc, List, [], ◌∷◌, ◌++◌, Bool, true, false, cond, ◌&&◌, ◌||◌, length, ltb, eqb}
use Rattle.expression.specs.Limits.{numbers, indices}
use Rattle.spelling.specs.Names.{function_names, operation_names, prefix_names, infix_names}
use Rattle.text.specs.Letters.{letter, bytes}
use Rattle.text.specs.Reading.{Read, is, bad, tab, lf, ended, is_from, digit_of, decimal, hex, starts, name_from}
use Rattle.origins.specs.Fields.{origin}
use Rattle.faults.specs.declared.Fault.{Fault}

-- ---- the forms of the lines: a letter for each field

-- H: a double; N: a number of a variable or a region; I: an index, or the number of a line, whether it is earlier or not; F, O, U, B: the name of a
-- function, an operation, a prefix or an infix operator; Z: the zeros of a double; @: an origin. Any other letter is the line's own, and stands for
-- itself.
unfoldable pub words_of : (kind : ℕ) → List (List ℕ)
words_of kind =
    cond (eqb kind (letter "F")) function_names
    (cond (eqb kind (letter "O")) operation_names
    (cond (eqb kind (letter "U")) prefix_names
    (cond (eqb kind (letter "B")) infix_names
    (cond (eqb kind (letter "Z")) (bytes "0000000000000000" ∷ [])
    ((kind ∷ []) ∷ [])))))

unfoldable pub read : (kind : ℕ) → List ℕ → Read ℕ
read kind bs =
    cond (eqb kind (letter "H")) (hex bs)
    (cond (eqb kind (letter "N")) (decimal numbers bs)
    (cond (eqb kind (letter "I")) (decimal indices bs)
    (cond (eqb kind (letter "@")) (origin bs)
    (name_from 1 (words_of kind) bs))))

-- a node line, by its first byte; where that begins no line, the letter n is as good as any that is due
unfoldable pub node_form : (first : ℕ) → List ℕ
node_form first =
    cond (eqb first (letter "n")) (bytes "nHH")
    (cond (eqb first (letter "p")) (bytes "p")
    (cond (eqb first (letter "v")) (bytes "vN")
    (cond (eqb first (letter "m")) (bytes "mNI")
    (cond (eqb first (letter "f")) (bytes "fFI")
    (cond (eqb first (letter "u")) (bytes "uUI")
    (cond (eqb first (letter "b")) (bytes "bBII")
    (bytes "n")))))))

-- whether `@` stands in a line, before its LF
unfoldable pub has_at : List ℕ → Bool
has_at [] = false
has_at (b ∷ bs) = cond (eqb b lf) false (cond (eqb b (letter "@")) true (has_at bs))

-- the fields, and one more where there is an origin
unfoldable pub form_with : (origin : Bool) → List ℕ → List ℕ
form_with origin form = cond origin (form ++ bytes "@") form

-- the line of a listing: "Written listings may carry the origins as a last field of their node lines"
unfoldable pub listing_form : (first : ℕ) (line : List ℕ) → List ℕ
listing_form first line = cond (eqb first (letter "s")) (bytes "sNI") (form_with (has_at line) (node_form first))

-- the line of a sheet, by its first byte, and t by its name as well: "For all but pow the second operand is two fields of zeros"
unfoldable pub sheet_form : (first : ℕ) (line : List ℕ) → List ℕ
sheet_form first line =
    cond (eqb first (letter "v")) (bytes "vNHH")
    (cond (eqb first (letter "m")) (bytes "mNIH")
    (cond (starts (bytes "t\tpow") line) (bytes "tOHHHHHH")
    (bytes "tOHHZZHH")))

-- ---- a field that does not read

-- what a byte says, or the end of the text, where it is not due. `base` is above 0 where a hex digit is due, and `left` where fields are
unfoldable pub told : (base left : ℕ) → List ℕ → Fault
told base left [] = cond (eqb left 0) Fault.NoLineFeed Fault.FieldMissing
told base left (b ∷ bs) =
    cond (eqb b (letter "\r")) Fault.CarriageReturn
    (cond (ltb 0 base && is_from "a" "f" b) Fault.HexCase
    (cond (ltb 0 left && (eqb b tab || eqb b lf)) Fault.FieldMissing
    Fault.WrongByte))

-- how many digits there are to choose from in a field: 16 in a double, 1 in its zeros
unfoldable pub base_of : (kind : ℕ) → ℕ
base_of kind = cond (eqb kind (letter "H")) 16 (cond (eqb kind (letter "Z")) 1 0)

-- the bytes from the first that is none of these digits
unfoldable pub no_digit : (base : ℕ) → List ℕ → List ℕ
no_digit base [] = []
no_digit base (b ∷ bs) = cond (ltb (digit_of b) base) (no_digit base bs) (b ∷ bs)

-- a field that has no end, by what was read of it, with the number of the fields after it: it is whole, and what follows on it is not the
-- byte that ends it; or it is not whole, and so is due itself
unfoldable pub field_fault : (kind left : ℕ) (bs : List ℕ) → Read ℕ → Fault
field_fault kind left bs (is v rest) = told 0 left rest
field_fault kind left bs bad = told (base_of kind) (suc left) (no_digit (base_of kind) bs)

-- ---- a line

-- the byte after a field: a tab, and after the last field LF
unfoldable pub stop_of : (left : ℕ) → ℕ
stop_of left = cond (eqb left 0) lf tab

unfoldable pub or_else : Read ℕ → (List ℕ → Fault) → Fault → Fault
or_else (is v rest) next fault = next rest
or_else bad next fault = fault

-- field by field; a line all of whose fields read was refused for its place: a child that is no earlier line, a row that is not above the last, a
-- line after those that it has to stand before
unfoldable pub fault_in : (form : List ℕ) → List ℕ → Fault
fault_in [] bs = Fault.Order
fault_in (kind ∷ kinds) bs =
    or_else (ended (stop_of (length kinds)) (read kind bs)) (λ rest. fault_in kinds rest) (field_fault kind (length kinds) bs (read kind bs))

-- the empty rest after the last LF is no line
unfoldable pub line_fault : (form : ℕ → List ℕ → List ℕ) → List ℕ → Fault
line_fault form [] = Fault.NoLine
line_fault form (b ∷ bs) = fault_in (form b (b ∷ bs)) (b ∷ bs)

-- the text without its first lines
unfoldable pub after_line : List ℕ → List ℕ
after_line [] = []
after_line (b ∷ bs) = cond (eqb b lf) bs (after_line bs)

unfoldable pub from_line : (line : ℕ) → List ℕ → List ℕ
from_line zero bs = bs
from_line (suc line) bs = from_line line (after_line bs)

-- the line that a refusal names, from 0
unfoldable pub listing_fault : (text : List ℕ) (line : ℕ) → Fault
listing_fault text line = line_fault listing_form (from_line line text)

unfoldable pub sheet_fault : (text : List ℕ) (line : ℕ) → Fault
sheet_fault text line = line_fault sheet_form (from_line line text)
