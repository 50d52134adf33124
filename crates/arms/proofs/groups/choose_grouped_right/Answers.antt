-- `choose_grouped_right` meets its contract. Assumes nothing.
use Rattle.arms.specs.Tables.{grouped_right}
use Rattle.arms.proofs.Looking.{so}
use Rattle.arms.proofs.Choosing.{hit, past, infix_by, infix_of_lem, smaller_before}
use Rattle.arms.proofs.groups.choose_grouped_right.Goals as goal

pub returns-then-is_inverse : goal.returns-then-is_inverse
unfolding grouped_right
returns-then-is_inverse c = λ m n t u x y b k. hit _ (so c.is_inverse.ensures c.if-is_inverse.true) (smaller_before (infix_of_lem x y) (infix_by c.uninverted.ensures x k) b)

pub returns : goal.returns
unfolding grouped_right
returns c = λ m n t u x y b k. past _ (so c.is_inverse.ensures c.if-is_inverse.false) (smaller_before (infix_of_lem x y) (infix_of_lem x b) k)
