-- A node line of a listing, on bytes and trees: what its fields say after the lines so far. Definitions only.
use Rattle.std.specs.Prelude.{ℕ, List, cond, length, get_or, eqb}
use Rattle.complex.specs.Constants.{of_parts}
use Rattle.expression.specs.Codes.{infix_of, prefix_of, function_of}
use Rattle.spelling.specs.Names.{function_names, prefix_names, infix_names}
use Rattle.expression.specs.Trees.{Tree, leaf, number, pi, variable, cell, function_call, prefixed, infixed}
use Rattle.expression.specs.Limits.{numbers, indices}
use Rattle.text.specs.Letters.{letter}
use Rattle.text.specs.Reading.{Read, is, bad, then, tab, ended, decimal, decimal_field, hex, hex_field, name_field}
use Rattle.origins.specs.Fields.{line_end}

-- ---- the fields after the first byte and a tab, where `end` says how the last one ends

-- "children are numbers of earlier lines from 0"
unfoldable pub child_by : (end : Read ℕ → Read ℕ) → (earlier : List Tree) → List ℕ → Read Tree
child_by end earlier bs = then (end (decimal (length earlier) bs)) λ i bs. is (get_or earlier i (leaf pi)) bs

abbrev pub child_field : (stop : ℕ) → (earlier : List Tree) → List ℕ → Read Tree
child_field stop = child_by (ended stop)

module _ (end : Read ℕ → Read ℕ) where
  -- `n·re·im`
  unfoldable pub number_fields : List ℕ → Read Tree
  number_fields bs = then (hex_field tab bs) λ re bs. then (end (hex bs)) λ im bs. is (leaf (number (of_parts re im))) bs

  -- `v·number`, `m·region·index`: "Variable and region are 0 to 65535, index 0 to 4294967295"
  unfoldable pub variable_fields : List ℕ → Read Tree
  variable_fields bs = then (end (decimal numbers bs)) λ v bs. is (leaf (variable v)) bs

  unfoldable pub cell_fields : List ℕ → Read Tree
  cell_fields bs =
      then (decimal_field tab numbers bs) λ region bs.
      then (end (decimal indices bs)) λ index bs.
      is (leaf (cell region index)) bs

  -- `f·name·child`, `u·op·child`, `b·op·left·right`
  unfoldable pub function_fields : (earlier : List Tree) → List ℕ → Read Tree
  function_fields earlier bs =
      then (name_field tab function_names bs) λ f bs.
      then (child_by end earlier bs) λ t bs.
      is (function_call (function_of f) t) bs

  unfoldable pub prefix_fields : (earlier : List Tree) → List ℕ → Read Tree
  prefix_fields earlier bs =
      then (name_field tab prefix_names bs) λ o bs.
      then (child_by end earlier bs) λ t bs.
      is (prefixed (prefix_of o) t) bs

  unfoldable pub infix_fields : (earlier : List Tree) → List ℕ → Read Tree
  infix_fields earlier bs =
      then (name_field tab infix_names bs) λ o bs.
      then (child_field tab earlier bs) λ l bs.
      then (child_by end earlier bs) λ r bs.
      is (infixed (infix_of o) l r) bs

  -- the fields of a line by its first byte
  unfoldable pub fields_of : (earlier : List Tree) → (first : ℕ) → List ℕ → Read Tree
  fields_of earlier first bs =
      cond (eqb first (letter "n")) (number_fields bs)
      (cond (eqb first (letter "v")) (variable_fields bs)
      (cond (eqb first (letter "m")) (cell_fields bs)
      (cond (eqb first (letter "f")) (function_fields earlier bs)
      (cond (eqb first (letter "u")) (prefix_fields earlier bs)
      (cond (eqb first (letter "b")) (infix_fields earlier bs)
      bad)))))

  -- p, which is pi, is a line of its own
  unfoldable pub pi_line : List ℕ → Read Tree
  pi_line bs = then (end (is 0 bs)) λ _ bs. is (leaf pi) bs

  -- a node line by its first byte
  unfoldable pub line_by : (earlier : List Tree) → (first : ℕ) → List ℕ → Read Tree
  line_by earlier first bs =
      cond (eqb first (letter "p")) (pi_line bs)
      (then (ended tab (is first bs)) λ first bs. fields_of earlier first bs)

-- ---- a node line: it may end in an origin. Without the field it is `line_by (ended lf)` (proofs/Plain.antt)

abbrev pub node_fields : (earlier : List Tree) → (first : ℕ) → List ℕ → Read Tree
node_fields = line_by line_end
