-- `choose_infix` meets its contract. Assumes nothing.
use mathlib.Core.Path.{refl}
use Rattle.expression.specs.declared.InfixOperator.{InfixOperator}
use Rattle.arms.specs.Tables.{sum_plan, difference_plan, product_plan, quotient_plan, power_plan, table_plan}
use Rattle.arms.proofs.Looking.{tree_of_lem, sits}
use Rattle.arms.proofs.Choosing.{tabled}
use Rattle.arms.proofs.choose_infix.Goals as goal

pub returns-in-Plus : goal.returns-in-Plus
unfolding table_plan
returns-in-Plus c = rw c.in-Plus.is λ n h l r. tabled InfixOperator.Plus _ _ (λ i. sum_plan (tree_of_lem h l c.expression_at-left.ensures i) (tree_of_lem h r c.expression_at-right.ensures i)) (c.choose_sum.ensures n h (sits h l c.expression_at-left.ensures) (sits h r c.expression_at-right.ensures))

pub returns-in-Minus : goal.returns-in-Minus
unfolding table_plan
returns-in-Minus c = rw c.in-Minus.is λ n h l r. tabled InfixOperator.Minus _ _ (λ i. difference_plan (tree_of_lem h l c.expression_at-left.ensures i) (tree_of_lem h r c.expression_at-right.ensures i)) (c.choose_difference.ensures n h (sits h l c.expression_at-left.ensures) (sits h r c.expression_at-right.ensures))

pub returns-in-Star : goal.returns-in-Star
unfolding table_plan
returns-in-Star c = rw c.in-Star.is λ n h l r. tabled InfixOperator.Star _ _ (λ i. product_plan (tree_of_lem h l c.expression_at-left.ensures i) (tree_of_lem h r c.expression_at-right.ensures i)) (c.choose_product.ensures n h (sits h l c.expression_at-left.ensures) (sits h r c.expression_at-right.ensures))

pub returns-in-Slash : goal.returns-in-Slash
unfolding table_plan
returns-in-Slash c = rw c.in-Slash.is λ n h l r. tabled InfixOperator.Slash _ _ (λ i. quotient_plan (tree_of_lem h l c.expression_at-left.ensures i) (tree_of_lem h r c.expression_at-right.ensures i)) (c.choose_quotient.ensures n h (sits h l c.expression_at-left.ensures) (sits h r c.expression_at-right.ensures))

pub returns-in-Caret : goal.returns-in-Caret
unfolding table_plan
returns-in-Caret c = rw c.in-Caret.is λ n h l r. tabled InfixOperator.Caret _ _ (λ i. power_plan (tree_of_lem h l c.expression_at-left.ensures i) (tree_of_lem h r c.expression_at-right.ensures i)) (c.choose_power.ensures _ n (sits h l c.expression_at-left.ensures) (sits h r c.expression_at-right.ensures) refl)
