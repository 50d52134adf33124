-- `call_cases::marks::is_same` meets its contract: the rows before the place are marked as the line says. Assumes nothing.
use mathlib.Core.Path.{◌≡◌}
use mathlib.Core.Bool.{true}
use Rattle.replay.specs.Judges.{every}
use Rattle.call_cases.specs.Judging.{marked_at}
use Rattle.call_cases.proofs.mark_lines.is_same.Given as goal

abbrev pub invariant-loop-row : goal.invariant-loop-row
invariant-loop-row l = every (marked_at l.line l.marks) l.row ≡ true
