-- `place_step` meets its contract: without room nothing is asked. Assumes nothing.
use native.Mathlib.Omega.{arith}
use Rattle.tape.proofs.compile.place_step.Goals as goal

pub returns-then-out-lt24 : goal.returns-then-out-lt24
returns-then-out-lt24 c = λ l. absurd (omega (arith, l, c.if-out-lt24.true))

pub returns-then-out-at : goal.returns-then-out-at
returns-then-out-at c = λ l. absurd (omega (arith, l, c.if-out-lt24.false, c.if-out-at.true))

pub write_step-requires : goal.write_step-requires
write_step-requires c = omega (arith, c.if-out-lt24.false, c.if-out-at.false)

pub shape_of-out : goal.shape_of-out
shape_of-out c = c.write_step.auto.out

pub returns : goal.returns
returns c = λ l. c.write_step.ensures
