-- A line of a sheet is taken away from the text: the rest is an end of it, and never longer, so that the fuel of `sheet` never runs out.
-- Assumes nothing.
use mathlib.Core.List.{List}
use mathlib.Core.Bool.{Bool, ◌&&◌, ◌||◌}
use Prim.Native.Nat.{ℕ}
use lib.ListN.{length}
use lib.Dec.{ltb, eqb}
use Rattle.complex.specs.Constants.{of_parts}
use Rattle.expression.specs.declared.refusal.Refusal.{Refusal}
use Rattle.spelling.specs.Names.{operation_names}
use Rattle.text.specs.Letters.{letter}
use Rattle.text.specs.Reading.{Read, is, bad, tab, lf, ended, decimal_field, hex_field, name_field}
use Rattle.text.specs.Lines.{Line, goes}
use Rattle.text.proofs.Shortening.{Resting, no_longer, Remains, RemainsOfLine, AllRemain, rest_cond, rest_line_cond, rest_then, rest_ended, rest_decimal, rest_hex_field, rest_name_field, Shortens}
use Rattle.sheet.specs.Rows.{Rows, complex_field, variable_fields, cell_fields, second_operand, row_fields, power, formed, counted, fields_after, variable_line, cell_line, function_line, sheet_line}

module _ {To : (bs rest : List ℕ) → Type 0} (w : Resting To) where
  complex_rest : (stop : ℕ) (bs : List ℕ) → Remains To bs (complex_field stop bs)
  unfolding complex_field
  complex_rest stop bs =
      rest_then w bs (hex_field tab bs) _ (rest_hex_field w tab bs) λ re bs. rest_then w bs (hex_field stop bs) _ (rest_hex_field w stop bs) λ im bs. w.all bs

  variable_rest : (bs : List ℕ) → Remains To bs (variable_fields bs)
  unfolding variable_fields
  variable_rest bs =
      rest_then w bs (decimal_field tab 65536 bs) _ (rest_decimal w tab 65536 bs) λ number bs.
      rest_then w bs (complex_field lf bs) _ (complex_rest lf bs) λ value bs.
      w.all bs

  cell_rest : (bs : List ℕ) → Remains To bs (cell_fields bs)
  unfolding cell_fields
  cell_rest bs =
      rest_then w bs (decimal_field tab 65536 bs) _ (rest_decimal w tab 65536 bs) λ region bs.
      rest_then w bs (decimal_field tab 4294967296 bs) _ (rest_decimal w tab 4294967296 bs) λ index bs.
      rest_then w bs (hex_field lf bs) _ (rest_hex_field w lf bs) λ real bs.
      w.all bs

  second_rest : (name : ℕ) (bs : List ℕ) → Remains To bs (second_operand name bs)
  unfolding second_operand
  second_rest name bs =
      rest_then w bs (hex_field tab bs) _ (rest_hex_field w tab bs) λ re bs.
      rest_then w bs (hex_field tab bs) _ (rest_hex_field w tab bs) λ im bs.
      rest_cond To bs (eqb name power || (eqb re 0 && eqb im 0)) (is (of_parts re im) bs) bad (w.all bs) tt

  row_rest : (bs : List ℕ) → Remains To bs (row_fields bs)
  unfolding row_fields
  row_rest bs =
      rest_then w bs (name_field tab operation_names bs) _ (rest_name_field w tab operation_names bs) λ name bs.
      rest_then w bs (complex_field tab bs) _ (complex_rest tab bs) λ x bs.
      rest_then w bs (second_operand name bs) _ (second_rest name bs) λ y bs.
      rest_then w bs (complex_field lf bs) _ (complex_rest lf bs) λ value bs.
      w.all bs

  -- ---- a line

  after_rest : {A : Type 0} (first : ℕ) (bs : List ℕ) (fields : List ℕ → Read A) → ((bs : List ℕ) → Remains To bs (fields bs)) → Remains To bs (fields_after first bs fields)
  after_rest first bs fields h = rest_then w bs (ended tab (is first bs)) _ (rest_ended w tab bs (is first bs) (w.all bs)) λ _ bs. h bs

  formed_rest : {A : Type 0} (s : Rows) (inOrder : A → Bool) (with : A → Rows) (bs : List ℕ) (r : Read A) → Remains To bs r → RemainsOfLine To bs (formed s inOrder with r)
  unfolding formed
  formed_rest s inOrder with bs (is x rest) h = rest_line_cond To bs (inOrder x) (goes (with x) rest) _ h tt
  formed_rest s inOrder with bs bad h = tt

  counted_rest : {A : Type 0} (s : Rows) (most : ℕ) (before : List A) (bs : List ℕ) (line : Line Rows Refusal) → RemainsOfLine To bs line → RemainsOfLine To bs (counted s most before line)
  unfolding counted
  counted_rest s most before bs line h = rest_line_cond To bs (ltb (length before) most) line _ h tt

  pub sheet_rests : AllRemain To sheet_line
  unfolding sheet_line variable_line cell_line function_line
  sheet_rests s b bs =
      rest_line_cond To bs (eqb b (letter "v")) (variable_line s b bs) _ (counted_rest s _ s.variables bs _ (formed_rest s _ _ bs _ (after_rest b bs variable_fields variable_rest)))
      (rest_line_cond To bs (eqb b (letter "m")) (cell_line s b bs) _ (counted_rest s _ s.cells bs _ (formed_rest s _ _ bs _ (after_rest b bs cell_fields cell_rest)))
      (rest_line_cond To bs (eqb b (letter "t")) (function_line s b bs) _ (counted_rest s _ s.functions bs _ (formed_rest s _ _ bs _ (after_rest b bs row_fields row_rest))) tt))

pub sheet_shortens : Shortens sheet_line
sheet_shortens = sheet_rests no_longer
