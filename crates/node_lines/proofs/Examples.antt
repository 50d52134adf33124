-- Worked examples of the definitions, which antt computes: a node line of each kind, lines that are malformed, and listings without origins. Assumes nothing.
use mathlib.Core.Path.{◌≡◌, refl}
use mathlib.Core.List.{List, [], ◌∷◌}
use Rattle.expression.specs.declared.InfixOperator.{InfixOperator}
use Rattle.expression.specs.declared.PrefixOperator.{PrefixOperator}
use Rattle.expression.specs.declared.ExpressionFunction.{ExpressionFunction}
use Rattle.expression.specs.Codes.{numbered}
use Rattle.expression.specs.Trees.{Tree, leaf, pi, variable, cell, function_call, prefixed, infixed}
use Rattle.text.specs.Letters.{bytes}
use Rattle.text.specs.Reading.{is, bad, then, ended, digit_of, run, value, spelt, decimal, starts, name_from}
use Rattle.origins.specs.Fields.{after_at, origin, line_end}
use Rattle.node_lines.specs.NodeLines.{child_by, variable_fields, cell_fields, function_fields, prefix_fields, infix_fields, fields_of, pi_line, line_by, node_fields}
use Rattle.node_lines.specs.Without.{whole_field, in_line, passing, left, without, without_origins}

abbrev a : Tree
a = leaf (variable 0)

abbrev b : Tree
b = leaf (variable 1)

abbrev difference : Tree
difference = infixed InfixOperator.Minus a b

-- ---- each kind of line, after the lines of a and b

abbrev two : List Tree
two = a ∷ b ∷ []

-- `p`
pi_line_lem : node_fields two 112 (10 ∷ []) ≡ is (leaf pi) []
unfolding line_by pi_line then line_end
pi_line_lem = refl

-- `v·65535`, and `v·65536`
variable_line_lem : node_fields two 118 (9 ∷ 54 ∷ 53 ∷ 53 ∷ 51 ∷ 53 ∷ 10 ∷ []) ≡ is (leaf (variable 65535)) []
unfolding line_by fields_of variable_fields then ended line_end decimal spelt run value digit_of
variable_line_lem = refl

variable_over : node_fields two 118 (9 ∷ 54 ∷ 53 ∷ 53 ∷ 51 ∷ 54 ∷ 10 ∷ []) ≡ bad
unfolding line_by fields_of variable_fields then ended line_end decimal spelt run value digit_of
variable_over = refl

-- `m·0·4294967295`, and `m·00·1`
cell_line_lem : node_fields two 109 (9 ∷ 48 ∷ 9 ∷ 52 ∷ 50 ∷ 57 ∷ 52 ∷ 57 ∷ 54 ∷ 55 ∷ 50 ∷ 57 ∷ 53 ∷ 10 ∷ []) ≡ is (leaf (cell 0 4294967295)) []
unfolding line_by fields_of cell_fields then ended line_end decimal spelt run value digit_of
cell_line_lem = refl

cell_zeros : node_fields two 109 (9 ∷ 48 ∷ 48 ∷ 9 ∷ 49 ∷ 10 ∷ []) ≡ bad
unfolding line_by fields_of cell_fields then ended line_end decimal spelt run value digit_of
cell_zeros = refl

-- `f·cis·1`, and `f·tan·1`
function_line_lem : node_fields two 102 (9 ∷ 99 ∷ 105 ∷ 115 ∷ 9 ∷ 49 ∷ 10 ∷ []) ≡ is (function_call ExpressionFunction.Cis b) []
unfolding line_by fields_of function_fields child_by then ended line_end decimal spelt run value digit_of name_from starts numbered
function_line_lem = refl

function_unknown : node_fields two 102 (9 ∷ 116 ∷ 97 ∷ 110 ∷ 9 ∷ 49 ∷ 10 ∷ []) ≡ bad
unfolding line_by fields_of function_fields child_by then ended line_end decimal spelt run value digit_of name_from starts
function_unknown = refl

-- `u·-·0`
prefix_line : node_fields two 117 (9 ∷ 45 ∷ 9 ∷ 48 ∷ 10 ∷ []) ≡ is (prefixed PrefixOperator.Minus a) []
unfolding line_by fields_of prefix_fields child_by then ended line_end decimal spelt run value digit_of name_from starts numbered
prefix_line = refl

-- `b·-·0·1`; with its own number as a child, `b·-·0·2`; and with no LF
infix_line : node_fields two 98 (9 ∷ 45 ∷ 9 ∷ 48 ∷ 9 ∷ 49 ∷ 10 ∷ []) ≡ is difference []
unfolding line_by fields_of infix_fields child_by then ended line_end decimal spelt run value digit_of name_from starts numbered
infix_line = refl

infix_own_child : node_fields two 98 (9 ∷ 45 ∷ 9 ∷ 48 ∷ 9 ∷ 50 ∷ 10 ∷ []) ≡ bad
unfolding line_by fields_of infix_fields child_by then ended line_end decimal spelt run value digit_of name_from starts
infix_own_child = refl

infix_unended : node_fields two 98 (9 ∷ 45 ∷ 9 ∷ 48 ∷ 9 ∷ 49 ∷ []) ≡ bad
unfolding line_by fields_of infix_fields child_by then ended line_end decimal spelt run value digit_of name_from starts
infix_unended = refl

-- an empty line
empty_line : node_fields two 10 [] ≡ bad
unfolding line_by fields_of then ended line_end
empty_line = refl

-- ---- the field that a line may end in

-- `p·@3`, `v·1·@-`
pi_origin : node_fields two 112 (bytes "\t@3\n") ≡ is (leaf pi) []
unfolding line_by pi_line line_end origin after_at then ended decimal spelt run value digit_of
pi_origin = refl

variable_origin : node_fields two 118 (bytes "\t1\t@-\n") ≡ is b []
unfolding line_by fields_of variable_fields line_end origin after_at then ended decimal spelt run value digit_of
variable_origin = refl

-- `b·-·0·1·@1023`; with 1024; with two fields; with the field in the place of a child
infix_origin : node_fields two 98 (bytes "\t-\t0\t1\t@1023\n") ≡ is difference []
unfolding line_by fields_of infix_fields child_by line_end origin after_at then ended decimal spelt run value digit_of name_from starts numbered
infix_origin = refl

infix_origin_over : node_fields two 98 (bytes "\t-\t0\t1\t@1024\n") ≡ bad
unfolding line_by fields_of infix_fields child_by line_end origin after_at then ended decimal spelt run value digit_of name_from starts
infix_origin_over = refl

infix_origins : node_fields two 98 (bytes "\t-\t0\t1\t@0\t@0\n") ≡ bad
unfolding line_by fields_of infix_fields child_by line_end origin after_at then ended decimal spelt run value digit_of name_from starts
infix_origins = refl

infix_origin_early : node_fields two 98 (bytes "\t-\t0\t@1\n") ≡ bad
unfolding line_by fields_of infix_fields child_by line_end origin after_at then ended decimal spelt run value digit_of name_from starts
infix_origin_early = refl

-- ---- a listing without these fields

gone : without_origins (bytes "p\t@3\nv\t1\t@-\np\n") ≡ bytes "p\nv\t1\np\n"
unfolding without passing in_line left whole_field origin after_at then ended decimal spelt run value digit_of
gone = refl

-- what is no whole field at the end of a node line stays: two fields, one that is malformed, one that has no LF, one of an s line
two_stay : without_origins (bytes "p\t@3\t@3\n") ≡ bytes "p\t@3\t@3\n"
unfolding without passing in_line left whole_field origin after_at then ended decimal spelt run value digit_of
two_stay = refl

malformed_stays : without_origins (bytes "p\t@03\n") ≡ bytes "p\t@03\n"
unfolding without passing in_line left whole_field origin after_at then ended decimal spelt run value digit_of
malformed_stays = refl

unended_stays : without_origins (bytes "p\t@3") ≡ bytes "p\t@3"
unfolding without passing in_line left whole_field origin after_at then ended decimal spelt run value digit_of
unended_stays = refl

s_stays : without_origins (bytes "s\t0\t0\t@3\n") ≡ bytes "s\t0\t0\t@3\n"
unfolding without passing in_line left whole_field origin after_at then ended decimal spelt run value digit_of
s_stays = refl
