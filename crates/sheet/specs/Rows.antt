-- A value sheet, on bytes: what its lines bind, when a line is refused, and what is looked up in it. Definitions only.
use Rattle.std.specs.Prelude.{ℕ, suc, ◌+◌, List, [], ◌∷◌, ◌++◌, Bool, true, cond, ◌&&◌, ◌||◌, length, ltb, eqb, Float}
use Rattle.complex.specs.declared.Complex.{Complex}
use Rattle.complex.specs.Bits.{double_of}
use Rattle.complex.specs.Equality.{identical}
use Rattle.complex.specs.Constants.{of_parts}
use Rattle.expression.specs.declared.refusal.Operation.{Operation}
use Rattle.expression.specs.declared.refusal.Refusal.{Refusal}
use Rattle.expression.specs.Codes.{operation_code, operation_of}
use Rattle.expression.specs.Limits.{numbers, indices}
use Rattle.spelling.specs.Names.{operation_names}
use Rattle.text.specs.Letters.{letter}
use Rattle.text.specs.Reading.{Read, is, bad, then, tab, lf, ended, decimal_field, hex_field, name_field}
use Rattle.text.specs.Lines.{Line, goes, stops, Whole, lines, none, above_last}

-- `v·number·re·im`, `m·region·index·real`, `t·name·re·im·re2·im2·re·im`
pub data Variable : Type 0 where
  variable : (number : ℕ) (value : Complex) → Variable

pub data Cell : Type 0 where
  cell : (region index : ℕ) (real : Float) → Cell

pub data Row : Type 0 where
  row : (operation : Operation) (x y value : Complex) → Row

-- the rows of a sheet, in their order
pub record Rows : Type 0 where
  pub variables : List Variable
  pub cells : List Cell
  pub functions : List Row

abbrev pub rows : List Variable → List Cell → List Row → Rows
rows variables cells functions = record { variables = variables; cells = cells; functions = functions }

-- ---- the fields of a line, after its first byte and a tab

unfoldable pub complex_field : (stop : ℕ) → List ℕ → Read Complex
complex_field stop bs = then (hex_field tab bs) λ re bs. then (hex_field stop bs) λ im bs. is (of_parts re im) bs

unfoldable pub variable_fields : List ℕ → Read Variable
variable_fields bs = then (decimal_field tab numbers bs) λ number bs. then (complex_field lf bs) λ value bs. is (variable number value) bs

unfoldable pub cell_fields : List ℕ → Read Cell
cell_fields bs =
    then (decimal_field tab numbers bs) λ region bs.
    then (decimal_field tab indices bs) λ index bs.
    then (hex_field lf bs) λ real bs.
    is (cell region index (double_of real)) bs

-- the number of the name pow
abbrev pub power : ℕ
power = operation_code Operation.Power

-- "For all but pow the second operand is two fields of zeros"
unfoldable pub second_operand : (name : ℕ) → List ℕ → Read Complex
second_operand name bs =
    then (hex_field tab bs) λ re bs.
    then (hex_field tab bs) λ im bs.
    cond (eqb name power || (eqb re 0 && eqb im 0)) (is (of_parts re im) bs) bad

unfoldable pub row_fields : List ℕ → Read Row
row_fields bs =
    then (name_field tab operation_names bs) λ name bs.
    then (complex_field tab bs) λ x bs.
    then (second_operand name bs) λ y bs.
    then (complex_field lf bs) λ value bs.
    is (row (operation_of name) x y value) bs

-- ---- a line after the rows so far

-- "ascending" by number, and "ascending by pair"
unfoldable pub above_number : Variable → Variable → Bool
above_number (variable n z) (variable n' z') = ltb n n'

unfoldable pub above_pair : Cell → Cell → Bool
above_pair (cell region index r) (cell region' index' r') = ltb region region' || (eqb region region' && ltb index index')

-- the line that comes next, from 0
abbrev pub line_number : Rows → ℕ
line_number s = length s.variables + (length s.cells + length s.functions)

-- the form of a line (3), where `inOrder` tells whether what was read may stand there
unfoldable pub formed : {A : Type 0} → Rows → (A → Bool) → (A → Rows) → Read A → Line Rows Refusal
formed s inOrder with bad = stops (Refusal.BadSheet (line_number s))
formed s inOrder with (is x rest) = cond (inOrder x) (goes (with x) rest) (stops (Refusal.BadSheet (line_number s)))

-- the count of a line (4) before its form (3)
unfoldable pub counted : {A : Type 0} → Rows → (most : ℕ) → List A → Line Rows Refusal → Line Rows Refusal
counted s most before line = cond (ltb (length before) most) line (stops (Refusal.LongSheet (line_number s)))

-- "At most 256 v, 1024 m and 256 t lines", in this order
abbrev pub most_variables : ℕ
most_variables = 256

abbrev pub most_cells : ℕ
most_cells = 1024

abbrev pub most_functions : ℕ
most_functions = 256

-- what follows the tab after a line's first byte
abbrev pub fields_after : {A : Type 0} → (first : ℕ) → List ℕ → (List ℕ → Read A) → Read A
fields_after first bs fields = then (ended tab (is first bs)) λ _ bs. fields bs

unfoldable pub variable_line : Rows → (first : ℕ) → List ℕ → Line Rows Refusal
variable_line s first bs =
    counted s most_variables s.variables
    (formed s (λ v. none s.cells && (none s.functions && above_last above_number s.variables v))
    (λ v. rows (s.variables ++ (v ∷ [])) s.cells s.functions)
    (fields_after first bs variable_fields))

unfoldable pub cell_line : Rows → (first : ℕ) → List ℕ → Line Rows Refusal
cell_line s first bs =
    counted s most_cells s.cells
    (formed s (λ c. none s.functions && above_last above_pair s.cells c)
    (λ c. rows s.variables (s.cells ++ (c ∷ [])) s.functions)
    (fields_after first bs cell_fields))

unfoldable pub function_line : Rows → (first : ℕ) → List ℕ → Line Rows Refusal
function_line s first bs =
    counted s most_functions s.functions
    (formed s (λ r. true)
    (λ r. rows s.variables s.cells (s.functions ++ (r ∷ [])))
    (fields_after first bs row_fields))

-- "A line's first byte decides its count": v, m, t; any other has none, and is 3
unfoldable pub sheet_line : Rows → (first : ℕ) → List ℕ → Line Rows Refusal
sheet_line s first bs =
    cond (eqb first (letter "v")) (variable_line s first bs)
    (cond (eqb first (letter "m")) (cell_line s first bs)
    (cond (eqb first (letter "t")) (function_line s first bs)
    (stops (Refusal.BadSheet (line_number s)))))

-- a sheet, "possibly empty"
unfoldable pub sheet : List ℕ → Whole Rows Refusal
sheet bs = lines sheet_line (rows [] [] []) bs

-- ---- what is looked up

pub data Lookup : Type 0 where
  found : Complex → Lookup
  missing : Lookup

unfoldable pub value_of : ℕ → List Variable → Lookup
value_of n [] = missing
value_of n (variable n' value ∷ vs) = cond (eqb n n') (found value) (value_of n vs)

-- a cell's value is its real, with imaginary part 0
unfoldable pub cell_value : (region index : ℕ) → List Cell → Lookup
cell_value region index [] = missing
cell_value region index (cell region' index' real ∷ cs) =
    cond (eqb region region' && eqb index index') (found (record { re = real; im = double_of 0 })) (cell_value region index cs)

-- "The first row that matches in name and operand bits counts"
unfoldable pub function_value : Operation → (x y : Complex) → List Row → Lookup
function_value o x y [] = missing
function_value o x y (row o' x' y' value ∷ rs) =
    cond (eqb (operation_code o) (operation_code o') && (identical x x' && identical y y')) (found value) (function_value o x y rs)

-- ---- "The look-up of a function value shall hand back the row's number as well"

pub data Numbered : Type 0 where
  at : (number : ℕ) (value : Complex) → Numbered
  nowhere : Numbered

-- whether a row is one for this operation and these operands
unfoldable pub matches : Operation → (x y : Complex) → Row → Bool
matches o x y (row o' x' y' value) = eqb (operation_code o) (operation_code o') && (identical x x' && identical y y')

unfoldable pub value_in : Row → Complex
value_in (row o x y value) = value

-- the first row that matches, of those from number `next` on
unfoldable pub row_from : (next : ℕ) → Operation → (x y : Complex) → List Row → Numbered
row_from next o x y [] = nowhere
row_from next o x y (r ∷ rs) = cond (matches o x y r) (at next (value_in r)) (row_from (suc next) o x y rs)

-- its number is counted from 0, among the t rows
abbrev pub function_row : Operation → (x y : Complex) → List Row → Numbered
function_row o x y rs = row_from 0 o x y rs
