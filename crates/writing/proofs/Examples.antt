-- A worked example of the definitions, which antt computes: 01's listing of (a-b)-b as it is written, and with origins. Assumes nothing.
use mathlib.Core.Path.{◌≡◌, refl}
use mathlib.Core.List.{[], ◌∷◌}
use Rattle.expression.specs.declared.InfixOperator.{InfixOperator}
use Rattle.expression.specs.Trees.{Tree, leaf, variable, infixed}
use Rattle.expression.specs.Alike.{alike, alike_leaves}
use Rattle.origins.specs.Fields.{origin_text}
use Rattle.store.specs.Origins.{origin_of}
use Rattle.store.specs.Storing.{among, place}
use Rattle.text.specs.Digits.{digits, digits_by}
use Rattle.text.specs.Writing.{byte_of, in_decimal, line}
use Rattle.writing.specs.Order.{once, finished, order, leaf_fields, line_fields, text, text_of}
use Rattle.writing.specs.Origins.{traced_text, traced_text_of}

abbrev a : Tree
a = leaf (variable 0)

abbrev b : Tree
b = leaf (variable 1)

abbrev difference : Tree
difference = infixed InfixOperator.Minus a b

-- `v·0`, `v·1`, `b·-·0·1`, `b·-·2·1`
written_order : order (infixed InfixOperator.Minus difference b) ≡ a ∷ b ∷ difference ∷ infixed InfixOperator.Minus difference b ∷ []
unfolding finished once among alike alike_leaves
written_order = refl

written_text : text_of (infixed InfixOperator.Minus difference b)
    ≡ 118 ∷ 9 ∷ 48 ∷ 10 ∷ 118 ∷ 9 ∷ 49 ∷ 10 ∷ 98 ∷ 9 ∷ 45 ∷ 9 ∷ 48 ∷ 9 ∷ 49 ∷ 10 ∷ 98 ∷ 9 ∷ 45 ∷ 9 ∷ 50 ∷ 9 ∷ 49 ∷ 10 ∷ []
unfolding text line line_fields leaf_fields finished once among alike alike_leaves place in_decimal digits digits_by byte_of
written_text = refl

-- where the job had `v·0`, `v·1`, `b·-·0·1` and the outer difference is new: `v·0·@0`, `v·1·@1`, `b·-·0·1·@2`, `b·-·2·1·@-`
traced_text_lem : traced_text_of (a ∷ b ∷ difference ∷ []) (infixed InfixOperator.Minus difference b)
    ≡ 118 ∷ 9 ∷ 48 ∷ 9 ∷ 64 ∷ 48 ∷ 10 ∷ 118 ∷ 9 ∷ 49 ∷ 9 ∷ 64 ∷ 49 ∷ 10 ∷ 98 ∷ 9 ∷ 45 ∷ 9 ∷ 48 ∷ 9 ∷ 49 ∷ 9 ∷ 64 ∷ 50 ∷ 10 ∷ 98 ∷ 9 ∷ 45 ∷ 9 ∷ 50 ∷ 9 ∷ 49 ∷ 9 ∷ 64 ∷ 45 ∷ 10 ∷ []
unfolding traced_text origin_of origin_text line line_fields leaf_fields finished once among alike alike_leaves place in_decimal digits digits_by byte_of
traced_text_lem = refl
