-- Worked examples of the definitions, which antt computes: each kind of line with its values, each refusal at its boundary, and what is
-- looked up. The counts are laws over any rows and bytes. Assumes nothing.
use mathlib.Core.Path.{◌≡◌, refl, sym, ◌∙◌}
use mathlib.Core.List.{List, [], ◌∷◌, ◌++◌}
use mathlib.Core.Bool.{true, false}
use Prim.Native.Nat.{ℕ, ◌+◌}
use native.Mathlib.Omega.{arith}
use lib.ListN.{length}
use lib.Ieee.{Float, to_bits, of_bits}
use borrow.Author.Tests.{eq-eqb}
use Rattle.complex.specs.declared.Complex.{Complex}
use Rattle.complex.specs.Bits.{bits_of, double_of, nan_pattern}
use Rattle.complex.specs.Constants.{of_parts}
use Rattle.expression.specs.declared.refusal.Operation.{Operation}
use Rattle.expression.specs.declared.refusal.Refusal.{Refusal}
use Rattle.text.specs.Reading.{is, bad, then, ended, digit_of, run, value, spelt, decimal, hex_from, hex, starts, name_from}
use Rattle.text.specs.Lines.{goes, stops, read, refused, after_line, lines, none, above_last}
use Rattle.complex.specs.Equality.{identical, identical_doubles}
use Rattle.text.proofs.Lining.{no_line, next_line_lem}
use Rattle.sheet.proofs.Shortening.{sheet_shortens}
use Rattle.sheet.specs.Rows.{Variable, variable, Cell, cell, Row, row, Rows, rows, complex_field, variable_fields, cell_fields, second_operand, row_fields, above_number, above_pair, line_number, formed, counted, fields_after, variable_line, cell_line, function_line, sheet_line, sheet, found, missing, value_of, cell_value, function_value}
use Rattle.expression.specs.Codes.{numbered, operation_code}
use Rattle.sheet.proofs.Taking.{too_many_lem, taken}

-- sixteen digits before other bytes: 0, 1, -0, and the bits of a NaN that is not the canonical one
abbrev zeros : List ℕ → List ℕ
zeros rest = 48 ∷ 48 ∷ 48 ∷ 48 ∷ 48 ∷ 48 ∷ 48 ∷ 48 ∷ 48 ∷ 48 ∷ 48 ∷ 48 ∷ 48 ∷ 48 ∷ 48 ∷ 48 ∷ rest

abbrev one : List ℕ → List ℕ
one rest = 51 ∷ 70 ∷ 70 ∷ 48 ∷ 48 ∷ 48 ∷ 48 ∷ 48 ∷ 48 ∷ 48 ∷ 48 ∷ 48 ∷ 48 ∷ 48 ∷ 48 ∷ 48 ∷ rest

abbrev minus_zero : List ℕ → List ℕ
minus_zero rest = 56 ∷ 48 ∷ 48 ∷ 48 ∷ 48 ∷ 48 ∷ 48 ∷ 48 ∷ 48 ∷ 48 ∷ 48 ∷ 48 ∷ 48 ∷ 48 ∷ 48 ∷ 48 ∷ rest

abbrev other_nan : List ℕ → List ℕ
other_nan rest = 70 ∷ 70 ∷ 70 ∷ 56 ∷ 48 ∷ 48 ∷ 48 ∷ 48 ∷ 48 ∷ 48 ∷ 48 ∷ 48 ∷ 48 ∷ 48 ∷ 48 ∷ 49 ∷ rest

-- what follows the first byte of `v·7·1·0`, `m·1·2·1` and `t·sin·1·0·0·0·1·1`, up to the next line
abbrev variable7 : List ℕ → List ℕ
variable7 rest = 9 ∷ 55 ∷ 9 ∷ one (9 ∷ zeros (10 ∷ rest))

abbrev cell12 : List ℕ → List ℕ
cell12 rest = 9 ∷ 49 ∷ 9 ∷ 50 ∷ 9 ∷ one (10 ∷ rest)

-- with the real part of the second operand
abbrev sine : (second : List ℕ → List ℕ) → List ℕ → List ℕ
sine second rest = 9 ∷ 115 ∷ 105 ∷ 110 ∷ 9 ∷ one (9 ∷ zeros (9 ∷ second (9 ∷ zeros (9 ∷ one (9 ∷ one (10 ∷ rest))))))

abbrev the1 : Complex
the1 = of_parts 0x3FF0_0000_0000_0000 0

abbrev the0 : Complex
the0 = of_parts 0 0

abbrev the11 : Complex
the11 = of_parts 0x3FF0_0000_0000_0000 0x3FF0_0000_0000_0000

-- ---- one line after another

module _ (s : Rows) (b : ℕ) (bs : List ℕ) where
  next : (s' : Rows) (rest : List ℕ) → sheet_line s b bs ≡ goes s' rest → lines sheet_line s (b ∷ bs) ≡ lines sheet_line s' rest
  unfolding after_line
  next s' rest e = next_line_lem sheet_line sheet_shortens s b bs ∙ rw e

  stop : (why : Refusal) → sheet_line s b bs ≡ stops why → lines sheet_line s (b ∷ bs) ≡ refused why
  unfolding after_line
  stop why e = next_line_lem sheet_line sheet_shortens s b bs ∙ rw e

end : (s : Rows) → lines sheet_line s [] ≡ read s
end s = no_line sheet_line sheet_shortens s

-- ---- each kind of line with its values

empty : sheet [] ≡ read (rows [] [] [])
unfolding sheet
empty = end (rows [] [] [])

after_v : Rows
after_v = rows (variable 7 the1 ∷ []) [] []

after_m : Rows
after_m = rows (variable 7 the1 ∷ []) (cell 1 2 (double_of 0x3FF0_0000_0000_0000) ∷ []) []

after_t : Rows
after_t = rows (variable 7 the1 ∷ []) (cell 1 2 (double_of 0x3FF0_0000_0000_0000) ∷ []) (row Operation.Sine the1 the0 the11 ∷ [])

v_line : (rest : List ℕ) → sheet_line (rows [] [] []) 118 (variable7 rest) ≡ goes after_v rest
unfolding after_v sheet_line variable_line counted formed none above_last above_number variable_fields complex_field then ended decimal spelt run value hex hex_from digit_of
v_line rest = refl

m_line : (rest : List ℕ) → sheet_line after_v 109 (cell12 rest) ≡ goes after_m rest
unfolding after_v after_m sheet_line cell_line counted formed none above_last cell_fields then ended decimal spelt run value hex hex_from digit_of
m_line rest = refl

t_line : (rest : List ℕ) → sheet_line after_m 116 (sine zeros rest) ≡ goes after_t rest
unfolding after_m after_t sheet_line function_line counted formed row_fields complex_field second_operand numbered then ended hex hex_from digit_of name_from starts
t_line rest = refl

each_kind : sheet (118 ∷ variable7 (109 ∷ cell12 (116 ∷ sine zeros []))) ≡ read after_t
unfolding sheet
each_kind =
    next (rows [] [] []) 118 (variable7 (109 ∷ cell12 (116 ∷ sine zeros []))) after_v _ (v_line (109 ∷ cell12 (116 ∷ sine zeros [])))
    ∙ next after_v 109 (cell12 (116 ∷ sine zeros [])) after_m _ (m_line (116 ∷ sine zeros []))
    ∙ next after_m 116 (sine zeros []) after_t [] (t_line [])
    ∙ end after_t

-- ---- refusal 3 at its boundary, whatever follows

-- a repeated variable
repeated : (rest : List ℕ) → sheet_line after_v 118 (variable7 rest) ≡ stops (Refusal.BadSheet 1)
unfolding after_v sheet_line variable_line counted formed none above_last above_number variable_fields complex_field then ended decimal spelt run value hex hex_from digit_of
repeated rest = refl

repeated_sheet : sheet (118 ∷ variable7 (118 ∷ variable7 [])) ≡ refused (Refusal.BadSheet 1)
unfolding sheet
repeated_sheet =
    next (rows [] [] []) 118 (variable7 (118 ∷ variable7 [])) after_v _ (v_line (118 ∷ variable7 []))
    ∙ stop after_v 118 (variable7 []) (Refusal.BadSheet 1) (repeated [])

-- m before v, t before m
v_after_m : (c : Cell) (rest : List ℕ) → sheet_line (rows [] (c ∷ []) []) 118 (variable7 rest) ≡ stops (Refusal.BadSheet 1)
unfolding sheet_line variable_line counted formed none variable_fields complex_field then ended decimal spelt run value hex hex_from digit_of
v_after_m c rest = refl

m_after_t : (r : Row) (rest : List ℕ) → sheet_line (rows [] [] (r ∷ [])) 109 (cell12 rest) ≡ stops (Refusal.BadSheet 1)
unfolding sheet_line cell_line counted formed none cell_fields then ended decimal spelt run value hex hex_from digit_of
m_after_t r rest = refl

-- cells ascend by pair: (1, 2) follows (0, 9) and (1, 1), not (1, 2) and (2, 0)
pairs : (r s : Float) → (above_pair (cell 0 9 r) (cell 1 2 s) ≡ true) × (above_pair (cell 1 1 r) (cell 1 2 s) ≡ true)
    × (above_pair (cell 1 2 r) (cell 1 2 s) ≡ false) × (above_pair (cell 2 0 r) (cell 1 2 s) ≡ false)
unfolding above_pair
pairs r s = (refl, refl, refl, refl)

-- the second operand of sin is no 1 and no -0; that of pow is any
sine_of_two : (rest : List ℕ) → (sheet_line (rows [] [] []) 116 (sine one rest) ≡ stops (Refusal.BadSheet 0)) × (sheet_line (rows [] [] []) 116 (sine minus_zero rest) ≡ stops (Refusal.BadSheet 0))
unfolding sheet_line function_line counted formed row_fields complex_field second_operand then ended hex hex_from digit_of name_from starts
sine_of_two rest = (refl, refl)

power_of_two : (rest : List ℕ) → second_operand 5 (one (9 ∷ zeros (9 ∷ rest))) ≡ is the1 rest
unfolding second_operand then ended hex hex_from digit_of
power_of_two rest = refl

-- the limit of a number, a leading zero, a digit in lower case, a line with no LF
numbers : (rest : List ℕ) → (variable_fields (54 ∷ 53 ∷ 53 ∷ 51 ∷ 53 ∷ 9 ∷ one (9 ∷ zeros (10 ∷ rest))) ≡ is (variable 65535 the1) rest)
    × (variable_fields (54 ∷ 53 ∷ 53 ∷ 51 ∷ 54 ∷ 9 ∷ one (9 ∷ zeros (10 ∷ rest))) ≡ bad)
    × (variable_fields (48 ∷ 55 ∷ 9 ∷ one (9 ∷ zeros (10 ∷ rest))) ≡ bad)
    × (variable_fields (55 ∷ 9 ∷ 102 ∷ rest) ≡ bad)
    × (variable_fields (55 ∷ 9 ∷ one (9 ∷ zeros [])) ≡ bad)
unfolding variable_fields complex_field then ended decimal spelt run value hex hex_from digit_of
numbers rest = (refl, refl, refl, refl, refl)

-- any other first byte, that of an empty line included, has no count
other_byte : (s : Rows) (rest : List ℕ) → (sheet_line s 10 rest ≡ stops (Refusal.BadSheet (line_number s))) × (sheet_line s 115 rest ≡ stops (Refusal.BadSheet (line_number s)))
unfolding sheet_line
other_byte s rest = (refl, refl)

-- ---- refusal 4 at its boundary: the 257th line of variables, whatever its bytes; the 256th is taken

module _ (vs : List Variable) (cs : List Cell) (fs : List Row) (bs : List ℕ) where
  variables_full : length vs ≡ 256 → stops (Refusal.LongSheet (256 + (length cs + length fs))) ≡ sheet_line (rows vs cs fs) 118 bs
  unfolding sheet_line variable_line
  variables_full h = too_many_lem (rows vs cs fs) 256 256 vs _ _ _ (rw h) h _ (omega arith)

  cells_full : length cs ≡ 1024 → stops (Refusal.LongSheet (length vs + (1024 + length fs))) ≡ sheet_line (rows vs cs fs) 109 bs
  unfolding sheet_line cell_line
  cells_full h = too_many_lem (rows vs cs fs) 1024 1024 cs _ _ _ (rw h) h _ (omega arith)

  rows_full : length fs ≡ 256 → stops (Refusal.LongSheet (length vs + (length cs + 256))) ≡ sheet_line (rows vs cs fs) 116 bs
  unfolding sheet_line function_line
  rows_full h = too_many_lem (rows vs cs fs) 256 256 fs _ _ _ (rw h) h _ (omega arith)

last_variable : (vs : List Variable) (v : Variable) (bs rest : List ℕ) → length vs ≡ 255 → above_last above_number vs v ≡ true → is v rest ≡ fields_after 118 bs variable_fields
    → goes (rows (vs ++ (v ∷ [])) [] []) rest ≡ sheet_line (rows vs [] []) 118 bs
unfolding sheet_line variable_line none
last_variable vs v bs rest h a e = taken (rows vs [] []) 256 255 vs _ _ 255 (rw h) h _ v rest (omega arith) e (sym a)

-- ---- what is looked up

looked_up : (value_of 7 after_t.variables ≡ found the1) × (value_of 8 after_t.variables ≡ missing)
    × (cell_value 1 2 after_t.cells ≡ found the1) × (cell_value 1 3 after_t.cells ≡ missing) × (cell_value 2 2 after_t.cells ≡ missing)
unfolding after_t value_of cell_value
looked_up = (refl, refl, refl, refl, refl)

called : (function_value Operation.Sine the1 the0 after_t.functions ≡ found the11) × (function_value Operation.Cosine the1 the0 after_t.functions ≡ missing)
unfolding after_t function_value identical identical_doubles to_bits of_bits
called = (refl, refl)

-- the first row that matches counts
first_counts : (o : Operation) (x y a b : Complex) → function_value o x y (row o x y a ∷ row o x y b ∷ []) ≡ found a
unfolding function_value identical identical_doubles
first_counts o x y a b =
    rw (eq-eqb (operation_code o) (operation_code o) refl, eq-eqb (bits_of x.re) (bits_of x.re) refl, eq-eqb (bits_of x.im) (bits_of x.im) refl, eq-eqb (bits_of y.re) (bits_of y.re) refl, eq-eqb (bits_of y.im) (bits_of y.im) refl)

-- by bits: 0 is not -0, and every NaN is one
by_bits : (identical the0 (of_parts 0x8000_0000_0000_0000 0) ≡ false) × (identical (of_parts 0xFFF8_0000_0000_0001 0) (of_parts 0x7FF0_0000_0000_0001 0) ≡ true)
unfolding identical identical_doubles to_bits of_bits
by_bits = (refl, refl)

one_nan_lem : (rest : List ℕ) → (complex_field 10 (other_nan (9 ∷ zeros (10 ∷ rest))) ≡ is (of_parts 0xFFF8_0000_0000_0001 0) rest) × (bits_of (double_of 0xFFF8_0000_0000_0001) ≡ nan_pattern)
unfolding complex_field then ended hex hex_from digit_of to_bits of_bits
one_nan_lem rest = (refl, refl)
