-- `write_hex` meets its contract. The invariant is `Turning`; the measure is how many digits are to come. Assumes nothing.
use Rattle.text.proofs.Putting.{Turning}
use Rattle.text.proofs.writing.write_hex.Given as goal

abbrev pub invariant-loop-k : goal.invariant-loop-k
invariant-loop-k l = Turning l.initial.out l.at l.n l.out l.k l.rest

abbrev pub decreases-loop-k : goal.decreases-loop-k
decreases-loop-k l = l.k
