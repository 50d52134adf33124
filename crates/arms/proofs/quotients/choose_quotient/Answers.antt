-- `choose_quotient` meets its contract. Assumes nothing.
use Rattle.arms.specs.Tables.{quotient_plan}
use Rattle.arms.proofs.Looking.{so, compared}
use Rattle.arms.proofs.Choosing.{hit, past, numeral, use_it, build, fold}
use Rattle.arms.proofs.quotients.choose_quotient.Goals as goal

pub returns-then-is_zero_number : goal.returns-then-is_zero_number
unfolding quotient_plan
returns-then-is_zero_number c = λ n h x y. hit _ (so (c.is_zero_number.ensures _) c.if-is_zero_number.true) (build (numeral c.zero.ensures))

pub returns-then-is_zero_number-2 : goal.returns-then-is_zero_number-2
unfolding quotient_plan
returns-then-is_zero_number-2 c = λ n h x y. past _ (so (c.is_zero_number.ensures _) c.if-is_zero_number.false) (hit _ (so (c.is_zero_number-2.ensures _) c.if-is_zero_number-2.true) (build (numeral c.not_a_number.ensures)))

pub returns-then-is_one_number : goal.returns-then-is_one_number
unfolding quotient_plan
returns-then-is_one_number c = λ n h x y. past _ (so (c.is_zero_number.ensures _) c.if-is_zero_number.false) (past _ (so (c.is_zero_number-2.ensures _) c.if-is_zero_number-2.false) (hit _ (so (c.is_one_number.ensures _) c.if-is_one_number.true) (use_it x.at)))

pub returns-then-equal_at : goal.returns-then-equal_at
unfolding quotient_plan
returns-then-equal_at c = λ n h x y. past _ (so (c.is_zero_number.ensures _) c.if-is_zero_number.false) (past _ (so (c.is_zero_number-2.ensures _) c.if-is_zero_number-2.false) (past _ (so (c.is_one_number.ensures _) c.if-is_one_number.false) (hit _ (so (compared c.equal_at.ensures h x.at y.at) c.if-equal_at.true) (build (numeral c.one.ensures)))))

pub returns-in-Some : goal.returns-in-Some
unfolding quotient_plan
returns-in-Some c = λ n h x y. let p = c.in-Some.ensures _ in past _ (so (c.is_zero_number.ensures _) c.if-is_zero_number.false) (past _ (so (c.is_zero_number-2.ensures _) c.if-is_zero_number-2.false) (past _ (so (c.is_one_number.ensures _) c.if-is_one_number.false) (past _ (so (compared c.equal_at.ensures h x.at y.at) c.if-equal_at.false) (hit _ p.0 (fold p.1.0 p.1.1)))))

pub returns-in-Some-choose_signed_quotient : goal.returns-in-Some-choose_signed_quotient
unfolding quotient_plan
returns-in-Some-choose_signed_quotient c = λ n h x y. let p = c.in-Some-choose_signed_quotient.ensures n h x y in past _ (so (c.is_zero_number.ensures _) c.if-is_zero_number.false) (past _ (so (c.is_zero_number-2.ensures _) c.if-is_zero_number-2.false) (past _ (so (c.is_one_number.ensures _) c.if-is_one_number.false) (past _ (so (compared c.equal_at.ensures h x.at y.at) c.if-equal_at.false) (past _ (c.in_default.ensures _) (hit _ p.0 (p.1))))))

pub returns-in-Some-choose_grouped : goal.returns-in-Some-choose_grouped
unfolding quotient_plan
returns-in-Some-choose_grouped c = λ n h x y. let p = c.in-Some-choose_grouped.ensures _ n x y in past _ (so (c.is_zero_number.ensures _) c.if-is_zero_number.false) (past _ (so (c.is_zero_number-2.ensures _) c.if-is_zero_number-2.false) (past _ (so (c.is_one_number.ensures _) c.if-is_one_number.false) (past _ (so (compared c.equal_at.ensures h x.at y.at) c.if-equal_at.false) (past _ (c.in_default.ensures _) (past _ (c.in_default-choose_signed_quotient.ensures n h x y) (hit _ p.0 (p.1)))))))

pub returns : goal.returns
unfolding quotient_plan
returns c = λ n h x y. past _ (so (c.is_zero_number.ensures _) c.if-is_zero_number.false) (past _ (so (c.is_zero_number-2.ensures _) c.if-is_zero_number-2.false) (past _ (so (c.is_one_number.ensures _) c.if-is_one_number.false) (past _ (so (compared c.equal_at.ensures h x.at y.at) c.if-equal_at.false) (past _ (c.in_default.ensures _) (past _ (c.in_default-choose_signed_quotient.ensures n h x y) (past _ (c.in_default-choose_grouped.ensures _ n x y) (c.choose_cancelled.ensures n h x y)))))))
