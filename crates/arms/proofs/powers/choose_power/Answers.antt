-- `choose_power` meets its contract. Assumes nothing.
use Rattle.arms.specs.Tables.{power_plan}
use Rattle.arms.proofs.Looking.{so}
use Rattle.arms.proofs.Choosing.{hit, past, infix_of_lem, numeral, use_it, build, fold}
use Rattle.arms.proofs.powers.choose_power.Goals as goal

pub returns-then-is_zero_number : goal.returns-then-is_zero_number
unfolding power_plan
returns-then-is_zero_number c = λ m n x y g. hit _ (so (c.is_zero_number.ensures _) c.if-is_zero_number.true) (build (numeral c.zero.ensures))

pub returns-then-is_zero_number-2 : goal.returns-then-is_zero_number-2
unfolding power_plan
returns-then-is_zero_number-2 c = λ m n x y g. past _ (so (c.is_zero_number.ensures _) c.if-is_zero_number.false) (hit _ (so (c.is_zero_number-2.ensures _) c.if-is_zero_number-2.true) (build (numeral c.one.ensures)))

pub returns-then-is_one_number : goal.returns-then-is_one_number
unfolding power_plan
returns-then-is_one_number c = λ m n x y g. past _ (so (c.is_zero_number.ensures _) c.if-is_zero_number.false) (past _ (so (c.is_zero_number-2.ensures _) c.if-is_zero_number-2.false) (hit _ (so (c.is_one_number.ensures _) c.if-is_one_number.true) (build (numeral c.one-then-is_one_number.ensures))))

pub returns-then-is_one_number-2 : goal.returns-then-is_one_number-2
unfolding power_plan
returns-then-is_one_number-2 c = λ m n x y g. past _ (so (c.is_zero_number.ensures _) c.if-is_zero_number.false) (past _ (so (c.is_zero_number-2.ensures _) c.if-is_zero_number-2.false) (past _ (so (c.is_one_number.ensures _) c.if-is_one_number.false) (hit _ (so (c.is_one_number-2.ensures _) c.if-is_one_number-2.true) (use_it x.at))))

pub returns-in-Some : goal.returns-in-Some
unfolding power_plan
returns-in-Some c = λ m n x y g. let p = c.in-Some.ensures _ in past _ (so (c.is_zero_number.ensures _) c.if-is_zero_number.false) (past _ (so (c.is_zero_number-2.ensures _) c.if-is_zero_number-2.false) (past _ (so (c.is_one_number.ensures _) c.if-is_one_number.false) (past _ (so (c.is_one_number-2.ensures _) c.if-is_one_number-2.false) (hit _ p.0 (fold p.1.0 p.1.1)))))

pub returns : goal.returns
unfolding power_plan
returns c = λ m n x y g. past _ (so (c.is_zero_number.ensures _) c.if-is_zero_number.false) (past _ (so (c.is_zero_number-2.ensures _) c.if-is_zero_number-2.false) (past _ (so (c.is_one_number.ensures _) c.if-is_one_number.false) (past _ (so (c.is_one_number-2.ensures _) c.if-is_one_number-2.false) (past _ (c.in_default.ensures _) (build (infix_of_lem x.at y.at))))))
