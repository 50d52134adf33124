-- `choose_function` meets its contract. Assumes nothing.
use mathlib.Core.Path.{refl, ap}
use Rattle.expression.specs.Nodes.{grown}
use Rattle.arms.specs.Looks.{is_number_of, number_in}
use Rattle.arms.specs.Arms.{function_plan}
use Rattle.arms.proofs.Looking.{other_than_number, tree_of_lem, sits}
use Rattle.arms.proofs.Choosing.{hit, past, planned, call_of, build, call}
use Rattle.arms.proofs.choose_function.Goals as goal

pub returns-in-Number : goal.returns-in-Number
unfolding function_plan grown is_number_of number_in
returns-in-Number c = λ n h l. planned (ap (function_plan c.args.function) (tree_of_lem h l c.expression_at.ensures)) (rw c.in-Number.is (hit _ refl (call refl)))

pub returns : goal.returns
unfolding function_plan grown is_number_of number_in
returns c = λ n h l. planned (ap (function_plan c.args.function) (tree_of_lem h l c.expression_at.ensures)) (past _ (other_than_number _ c.in_default.not-Number _) (build (call_of (sits h l c.expression_at.ensures).at)))
