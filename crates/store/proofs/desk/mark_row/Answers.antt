-- `mark_row` meets its contract: a word of the desk, or none. Assumes nothing.
use mathlib.Core.Path.{refl, sym}
use native.Mathlib.Omega.{arith}
use lib.Seq.{set_out}
use Rattle.store.specs.Desk.{with_mark}
use Rattle.store.proofs.desk.mark_row.Goals as goal

pub returns-in_default : goal.returns-in_default
unfolding with_mark
returns-in_default c = rw c.in_default.is refl

pub returns-then-j-lt-MARKS : goal.returns-then-j-lt-MARKS
unfolding with_mark
returns-then-j-lt-MARKS c = rw c.in-Some.is refl

pub returns-else-j-lt-MARKS : goal.returns-else-j-lt-MARKS
unfolding with_mark
returns-else-j-lt-MARKS c = rw c.in-Some.is (sym (set_out _ _ _ (omega arith)))
