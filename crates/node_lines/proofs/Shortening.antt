-- A node line is taken away from the text: the rest is an end of it, and so never longer. Assumes nothing.
use mathlib.Core.List.{List}
use Prim.Native.Nat.{ℕ}
use lib.ListN.{length}
use lib.Dec.{eqb}
use Rattle.expression.specs.Trees.{Tree}
use Rattle.spelling.specs.Names.{function_names, prefix_names, infix_names}
use Rattle.text.specs.Letters.{letter}
use Rattle.text.specs.Reading.{Read, is, bad, tab, ended, decimal, hex, decimal_field, hex_field, name_field}
use Rattle.text.proofs.Shortening.{Resting, NoLonger, no_longer, Remains, rest_cond, rest_then, rest_ended, rest_decimal_number, rest_hex_number, rest_decimal, rest_hex_field, rest_name_field, Shorter}
use Rattle.origins.specs.Fields.{line_end}
use Rattle.origins.proofs.Ending.{rest_line_end}
use Rattle.node_lines.specs.NodeLines.{child_by, child_field, number_fields, variable_fields, cell_fields, function_fields, prefix_fields, infix_fields, fields_of, pi_line, line_by, node_fields}

-- ---- fields and lines, whatever ends them, if that takes away too

abbrev pub EndRemains : (To : (bs rest : List ℕ) → Type 0) → (end : Read ℕ → Read ℕ) → Type 0
EndRemains To end = (bs : List ℕ) (r : Read ℕ) → Remains To bs r → Remains To bs (end r)

module _ {To : (bs rest : List ℕ) → Type 0} (w : Resting To) (end : Read ℕ → Read ℕ) (rests : EndRemains To end) where
  child_by_rest : (earlier : List Tree) (bs : List ℕ) → Remains To bs (child_by end earlier bs)
  unfolding child_by
  child_by_rest earlier bs =
      rest_then w bs (end (decimal (length earlier) bs)) _ (rests bs (decimal (length earlier) bs) (rest_decimal_number w (length earlier) bs)) λ i rest. w.all rest

pub child_rest : {To : (bs rest : List ℕ) → Type 0} → Resting To → (stop : ℕ) (earlier : List Tree) (bs : List ℕ) → Remains To bs (child_field stop earlier bs)
child_rest w stop = child_by_rest w (ended stop) (rest_ended w stop)

module _ {To : (bs rest : List ℕ) → Type 0} (w : Resting To) (end : Read ℕ → Read ℕ) (rests : EndRemains To end) where
  number_rest : (bs : List ℕ) → Remains To bs (number_fields end bs)
  unfolding number_fields
  number_rest bs =
      rest_then w bs (hex_field tab bs) _ (rest_hex_field w tab bs) λ re bs.
      rest_then w bs (end (hex bs)) _ (rests bs (hex bs) (rest_hex_number w bs)) λ im bs.
      w.all bs

  variable_rest : (bs : List ℕ) → Remains To bs (variable_fields end bs)
  unfolding variable_fields
  variable_rest bs = rest_then w bs (end (decimal 65536 bs)) _ (rests bs (decimal 65536 bs) (rest_decimal_number w 65536 bs)) λ v bs. w.all bs

  cell_rest : (bs : List ℕ) → Remains To bs (cell_fields end bs)
  unfolding cell_fields
  cell_rest bs =
      rest_then w bs (decimal_field tab 65536 bs) _ (rest_decimal w tab 65536 bs) λ region bs.
      rest_then w bs (end (decimal 4294967296 bs)) _ (rests bs (decimal 4294967296 bs) (rest_decimal_number w 4294967296 bs)) λ index bs.
      w.all bs

  function_rest : (earlier : List Tree) (bs : List ℕ) → Remains To bs (function_fields end earlier bs)
  unfolding function_fields
  function_rest earlier bs =
      rest_then w bs (name_field tab function_names bs) _ (rest_name_field w tab function_names bs) λ f bs.
      rest_then w bs (child_by end earlier bs) _ (child_by_rest w end rests earlier bs) λ t bs.
      w.all bs

  prefix_rest : (earlier : List Tree) (bs : List ℕ) → Remains To bs (prefix_fields end earlier bs)
  unfolding prefix_fields
  prefix_rest earlier bs =
      rest_then w bs (name_field tab prefix_names bs) _ (rest_name_field w tab prefix_names bs) λ o bs.
      rest_then w bs (child_by end earlier bs) _ (child_by_rest w end rests earlier bs) λ t bs.
      w.all bs

  infix_rest : (earlier : List Tree) (bs : List ℕ) → Remains To bs (infix_fields end earlier bs)
  unfolding infix_fields
  infix_rest earlier bs =
      rest_then w bs (name_field tab infix_names bs) _ (rest_name_field w tab infix_names bs) λ o bs.
      rest_then w bs (child_field tab earlier bs) _ (child_rest w tab earlier bs) λ l bs.
      rest_then w bs (child_by end earlier bs) _ (child_by_rest w end rests earlier bs) λ r bs.
      w.all bs

  fields_rest : (earlier : List Tree) (first : ℕ) (bs : List ℕ) → Remains To bs (fields_of end earlier first bs)
  unfolding fields_of
  fields_rest earlier first bs =
      rest_cond To bs (eqb first (letter "n")) (number_fields end bs) _ (number_rest bs)
      (rest_cond To bs (eqb first (letter "v")) (variable_fields end bs) _ (variable_rest bs)
      (rest_cond To bs (eqb first (letter "m")) (cell_fields end bs) _ (cell_rest bs)
      (rest_cond To bs (eqb first (letter "f")) (function_fields end earlier bs) _ (function_rest earlier bs)
      (rest_cond To bs (eqb first (letter "u")) (prefix_fields end earlier bs) _ (prefix_rest earlier bs)
      (rest_cond To bs (eqb first (letter "b")) (infix_fields end earlier bs) bad (infix_rest earlier bs) tt)))))

  pi_rest : (bs : List ℕ) → Remains To bs (pi_line end bs)
  unfolding pi_line
  pi_rest bs = rest_then w bs (end (is 0 bs)) _ (rests bs (is 0 bs) (w.all bs)) λ _ bs. w.all bs

  pub line_rest : (earlier : List Tree) (first : ℕ) (bs : List ℕ) → Remains To bs (line_by end earlier first bs)
  unfolding line_by
  line_rest earlier first bs =
      rest_cond To bs (eqb first (letter "p")) (pi_line end bs) _ (pi_rest bs)
      (rest_then w bs (ended tab (is first bs)) _ (rest_ended w tab bs (is first bs) (w.all bs)) λ first bs. fields_rest earlier first bs)

pub node_rest : {To : (bs rest : List ℕ) → Type 0} → Resting To → (earlier : List Tree) (first : ℕ) (bs : List ℕ) → Remains To bs (node_fields earlier first bs)
node_rest w = line_rest w line_end (rest_line_end w)

-- ---- the rest is never longer

abbrev pub EndShortens : (end : Read ℕ → Read ℕ) → Type 0
EndShortens end = EndRemains NoLonger end

pub child_shorter : (stop : ℕ) (earlier : List Tree) (bs : List ℕ) → Shorter bs (child_field stop earlier bs)
child_shorter = child_rest no_longer

pub line_shorter : (end : Read ℕ → Read ℕ) → EndShortens end → (earlier : List Tree) (first : ℕ) (bs : List ℕ) → Shorter bs (line_by end earlier first bs)
line_shorter = line_rest no_longer

pub node_shorter : (earlier : List Tree) (first : ℕ) (bs : List ℕ) → Shorter bs (node_fields earlier first bs)
node_shorter = node_rest no_longer
