-- `read_hex` meets its contract. The invariant is `Hexing`. Assumes nothing.
use Rattle.text.proofs.Running.{Hexing}
use Rattle.text.proofs.reading.read_hex.Given as goal

abbrev pub invariant-loop-b : goal.invariant-loop-b
invariant-loop-b l = Hexing l.s l.v l.worst l.b-index
