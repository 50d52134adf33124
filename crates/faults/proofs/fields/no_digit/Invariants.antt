-- `no_digit` meets its contract. The measure is what is left of the text. Assumes nothing.
use Rattle.std.proofs.Common.{◌≡◌, length}
use Rattle.faults.specs.Faulting.{no_digit}
use Rattle.faults.proofs.fields.no_digit.Given as goal

abbrev pub invariant-loop-b : goal.invariant-loop-b
invariant-loop-b l = no_digit l.base l.rest ≡ no_digit l.base l.s

abbrev pub decreases-loop-b : goal.decreases-loop-b
decreases-loop-b l = length l.rest
