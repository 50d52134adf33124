-- `has_at` meets its contract. What is left of the line has an `@` if the whole has one. Assumes nothing.
use Rattle.std.proofs.Common.{◌≡◌, drop}
use Rattle.faults.specs.Faulting.{has_at}
use Rattle.faults.proofs.has_at.Given as goal

abbrev pub invariant-loop-b : goal.invariant-loop-b
invariant-loop-b l = has_at (drop l.b-index l.line) ≡ has_at l.line
