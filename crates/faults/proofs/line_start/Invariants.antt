-- `line_start` meets its contract. The invariant is `At`. Assumes nothing.
use Rattle.faults.proofs.Telling.{At}
use Rattle.faults.proofs.line_start.Given as goal

abbrev pub invariant-loop-i : goal.invariant-loop-i
invariant-loop-i l = At l.text l.line l.left l.i
