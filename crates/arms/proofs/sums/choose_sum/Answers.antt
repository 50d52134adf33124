-- `choose_sum` meets its contract. Assumes nothing.
use Rattle.arms.specs.Tables.{sum_plan}
use Rattle.arms.proofs.Looking.{so}
use Rattle.arms.proofs.Choosing.{hit, past, infix_of_lem, use_it, again, fold}
use Rattle.arms.proofs.sums.choose_sum.Goals as goal

pub returns-then-is_zero_number : goal.returns-then-is_zero_number
unfolding sum_plan
returns-then-is_zero_number c = λ n h x y. hit _ (so (c.is_zero_number.ensures _) c.if-is_zero_number.true) (use_it y.at)

pub returns-then-is_zero_number-2 : goal.returns-then-is_zero_number-2
unfolding sum_plan
returns-then-is_zero_number-2 c = λ n h x y. past _ (so (c.is_zero_number.ensures _) c.if-is_zero_number.false) (hit _ (so (c.is_zero_number-2.ensures _) c.if-is_zero_number-2.true) (use_it x.at))

pub returns-in-Some : goal.returns-in-Some
unfolding sum_plan
returns-in-Some c = λ n h x y. let p = c.in-Some.ensures _ in past _ (so (c.is_zero_number.ensures _) c.if-is_zero_number.false) (past _ (so (c.is_zero_number-2.ensures _) c.if-is_zero_number-2.false) (hit _ p.0 (fold p.1.0 p.1.1)))

pub returns-in-Some-negated : goal.returns-in-Some-negated
unfolding sum_plan
returns-in-Some-negated c = λ n h x y. let p = c.in-Some-negated.ensures _ n y.within in past _ (so (c.is_zero_number.ensures _) c.if-is_zero_number.false) (past _ (so (c.is_zero_number-2.ensures _) c.if-is_zero_number-2.false) (past _ (c.in_default.ensures _) (hit _ p.0 (again (infix_of_lem x.at p.1)))))

pub returns-in-Some-negated-2 : goal.returns-in-Some-negated-2
unfolding sum_plan
returns-in-Some-negated-2 c = λ n h x y. let p = c.in-Some-negated-2.ensures _ n x.within in past _ (so (c.is_zero_number.ensures _) c.if-is_zero_number.false) (past _ (so (c.is_zero_number-2.ensures _) c.if-is_zero_number-2.false) (past _ (c.in_default.ensures _) (past _ (c.in_default-negated.ensures _ n y.within) (hit _ p.0 (again (infix_of_lem y.at p.1))))))

pub returns : goal.returns
unfolding sum_plan
returns c = λ n h x y. past _ (so (c.is_zero_number.ensures _) c.if-is_zero_number.false) (past _ (so (c.is_zero_number-2.ensures _) c.if-is_zero_number-2.false) (past _ (c.in_default.ensures _) (past _ (c.in_default-negated.ensures _ n y.within) (past _ (c.in_default-negated-2.ensures _ n x.within) (c.choose_affine.ensures n h x y)))))
