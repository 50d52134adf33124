-- `copy_marks` meets its contract: each word of the marks as a byte. Assumes nothing.
use mathlib.Core.Path.{refl}
use native.Mathlib.Omega.{arith}
use Rattle.calls.proofs.Copying.{copied_more, copied_all}
use Rattle.calls.proofs.marks.copy_marks.Goals as goal

pub loop-row-init : goal.loop-row-init
loop-row-init c = record { inside = omega arith; long = refl; same = λ w k l. absurd (omega (arith, l)) }

pub loop-row-preserved : goal.loop-row-preserved
loop-row-preserved c = copied_more c.loop-row.invariant c.loop-row-test.true refl

pub returns : goal.returns
returns c = copied_all c.loop-row.invariant c.loop-row-test.false
