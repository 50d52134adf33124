-- `above` meets its contract. Assumes nothing.
use native.Mathlib.Omega.{arith}
use Rattle.tape.proofs.play.above.Goals as goal

pub returns-then-slot-lt63 : goal.returns-then-slot-lt63
returns-then-slot-lt63 c = (omega (arith, c.if-slot-lt63.true), λ l. omega arith)

pub returns-else-slot-lt63 : goal.returns-else-slot-lt63
returns-else-slot-lt63 c = (c.requires, λ l. absurd (omega (arith, l, c.if-slot-lt63.false)))
