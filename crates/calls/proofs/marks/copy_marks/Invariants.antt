-- `copy_marks` meets its contract: each word of the marks as a byte. Assumes nothing.
use Rattle.calls.proofs.Copying.{Copied}
use Rattle.calls.proofs.marks.copy_marks.Given as goal

abbrev pub invariant-loop-row : goal.invariant-loop-row
invariant-loop-row l = Copied l.desk l.initial.marks l.row l.marks
