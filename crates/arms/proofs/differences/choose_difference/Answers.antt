-- `choose_difference` meets its contract. Assumes nothing.
use mathlib.Core.Path.{refl}
use Rattle.arms.specs.Tables.{difference_plan}
use Rattle.arms.proofs.Looking.{so, compared}
use Rattle.arms.proofs.Choosing.{hit, past, minus_of, numeral, use_it, build, fold, again}
use Rattle.arms.proofs.differences.choose_difference.Goals as goal

pub returns-then-is_zero_number : goal.returns-then-is_zero_number
unfolding difference_plan
returns-then-is_zero_number c = λ n h x y. hit _ (so (c.is_zero_number.ensures _) c.if-is_zero_number.true) (again (minus_of y.at))

pub returns-then-is_zero_number-2 : goal.returns-then-is_zero_number-2
unfolding difference_plan
returns-then-is_zero_number-2 c = λ n h x y. past _ (so (c.is_zero_number.ensures _) c.if-is_zero_number.false) (hit _ (so (c.is_zero_number-2.ensures _) c.if-is_zero_number-2.true) (use_it x.at))

pub returns-then-equal_at : goal.returns-then-equal_at
unfolding difference_plan
returns-then-equal_at c = λ n h x y. past _ (so (c.is_zero_number.ensures _) c.if-is_zero_number.false) (past _ (so (c.is_zero_number-2.ensures _) c.if-is_zero_number-2.false) (hit _ (so (compared c.equal_at.ensures h x.at y.at) c.if-equal_at.true) (build (numeral c.zero.ensures))))

pub returns-in-Some : goal.returns-in-Some
unfolding difference_plan
returns-in-Some c = λ n h x y. let p = c.in-Some.ensures _ in past _ (so (c.is_zero_number.ensures _) c.if-is_zero_number.false) (past _ (so (c.is_zero_number-2.ensures _) c.if-is_zero_number-2.false) (past _ (so (compared c.equal_at.ensures h x.at y.at) c.if-equal_at.false) (hit _ p.0 (fold p.1.0 p.1.1))))

pub returns : goal.returns
unfolding difference_plan
returns c = λ n h x y. past _ (so (c.is_zero_number.ensures _) c.if-is_zero_number.false) (past _ (so (c.is_zero_number-2.ensures _) c.if-is_zero_number-2.false) (past _ (so (compared c.equal_at.ensures h x.at y.at) c.if-equal_at.false) (past _ (c.in_default.ensures _) (c.choose_signed_difference.ensures _ n x y refl))))
