-- `read_step` meets its contract. The invariant is `Stepping`. Assumes nothing.
use Rattle.console.proofs.TapeLines.{Stepping}
use Rattle.console.proofs.tape.read_step.Given as goal

abbrev pub invariant-loop-k : goal.invariant-loop-k
invariant-loop-k l = Stepping l.s l.step l.rest l.k
