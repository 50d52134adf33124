-- `mark` meets its contract: the mark of the row is set; past the end nothing is. Assumes nothing.
use mathlib.Core.Path.{refl, sym}
use lib.Seq.{set_out}
use Rattle.memory.specs.Layout.{numbered}
use Rattle.memory.specs.Marks.{noted}
use Rattle.memory.proofs.mark.Goals as goal

pub returns-in_default : goal.returns-in_default
unfolding noted numbered
returns-in_default c = rw c.in_default.is refl

pub returns-then-j-marks : goal.returns-then-j-marks
unfolding noted numbered
returns-then-j-marks c = rw c.in-Some.is refl

pub returns-else-j-marks : goal.returns-else-j-marks
unfolding noted numbered
returns-else-j-marks c = rw c.in-Some.is (sym (set_out _ _ _ c.if-j-marks.false))
