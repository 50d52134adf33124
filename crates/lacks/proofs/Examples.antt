-- Examples of the definitions, computed: left before right, what is bound is passed over, and a function value that is lacking is not looked at.
-- Assumes nothing.
use mathlib.Core.Path.{◌≡◌, refl}
use mathlib.Core.List.{[], ◌∷◌}
use Rattle.std.specs.Prelude.{Some, None}
use Rattle.complex.specs.Constants.{one_number}
use Rattle.expression.specs.declared.InfixOperator.{InfixOperator}
use Rattle.expression.specs.declared.ExpressionFunction.{ExpressionFunction}
use Rattle.expression.specs.Trees.{Tree, leaf, number, variable, cell, function_call, infixed}
use Rattle.sheet.specs.Rows as Rows
use Rattle.sheet.specs.Rows.{Rows, rows, value_of, cell_value}
use Rattle.tape.specs.Tapes.{leaf_step, steps}
use Rattle.lacks.specs.declared.Missing.{Missing}
use Rattle.lacks.specs.Lacking.{unless_bound, or_else, missing_leaf, first_missing, missing_step, missing_in_steps}

a : Tree
a = leaf (variable 0)

b : Tree
b = leaf (variable 1)

-- cell 3 of region 2
c : Tree
c = leaf (cell 2 3)

abbrev plus : (l r : Tree) → Tree
plus = infixed InfixOperator.Plus

nothing_bound : Rows
nothing_bound = rows [] [] []

a_bound : Rows
a_bound = rows (Rows.variable 0 one_number ∷ []) [] []

left_first : first_missing nothing_bound (plus b a) ≡ Some (Missing.Variable 1)
unfolding first_missing or_else missing_leaf unless_bound value_of a b nothing_bound
left_first = refl

bound_passed : first_missing a_bound (plus a (plus a c)) ≡ Some (Missing.Cell 2 3)
unfolding first_missing or_else missing_leaf unless_bound value_of cell_value a c a_bound
bound_passed = refl

all_bound : first_missing a_bound (plus a a) ≡ None
unfolding first_missing or_else missing_leaf unless_bound value_of a a_bound
all_bound = refl

-- evaluating stops at sin 1, for which there is no row, with 9 and not 10; b is named all the same
no_row : first_missing a_bound (plus (function_call ExpressionFunction.Sine (leaf (number one_number))) b) ≡ Some (Missing.Variable 1)
unfolding first_missing or_else missing_leaf unless_bound value_of b a_bound
no_row = refl

on_steps : missing_in_steps a_bound (steps (plus a (plus c b))) ≡ Some (Missing.Cell 2 3)
unfolding steps leaf_step missing_in_steps or_else missing_step missing_leaf unless_bound value_of cell_value a b c a_bound
on_steps = refl
