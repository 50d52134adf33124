-- `choose_minus` meets its contract. Assumes nothing.
use mathlib.Core.Path.{refl, ap}
use Rattle.expression.specs.Nodes.{grown}
use Rattle.arms.specs.Looks.{is_number_of, number_in}
use Rattle.arms.specs.Arms.{minus_plan, prefix_plan}
use Rattle.arms.proofs.Looking.{other_than_number, tree_of_lem, within_of, sits}
use Rattle.arms.proofs.Choosing.{hit, past, planned, minus_of, numeral, use_it, build}
use Rattle.arms.proofs.choose_minus.Goals as goal

pub returns-in-Number : goal.returns-in-Number
unfolding minus_plan prefix_plan grown is_number_of number_in
returns-in-Number c = λ n h l. planned (ap minus_plan (tree_of_lem h l c.expression_at-child.ensures)) (rw c.in-Number.is (hit _ refl (build (numeral c.neg.ensures))))

pub returns-in-Some : goal.returns-in-Some
unfolding minus_plan prefix_plan grown is_number_of number_in
returns-in-Some c = λ n h l. let p = c.in-Some.ensures _ n (within_of h l c.expression_at-child.ensures) in planned (ap minus_plan (tree_of_lem h l c.expression_at-child.ensures)) (past _ (other_than_number _ c.in_default.not-Number _) (hit _ p.0 (use_it p.1)))

pub returns : goal.returns
unfolding minus_plan prefix_plan grown is_number_of number_in
returns c = λ n h l. planned (ap minus_plan (tree_of_lem h l c.expression_at-child.ensures)) (past _ (other_than_number _ c.in_default.not-Number _) (past _ (c.in_default-negated.ensures _ n (within_of h l c.expression_at-child.ensures)) (build (minus_of (sits h l c.expression_at-child.ensures).at))))
