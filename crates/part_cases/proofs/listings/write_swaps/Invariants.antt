-- `part_cases::listings::write_swaps` is safe: the rows are as many as they were. Assumes nothing.
use mathlib.Core.Path.{◌≡◌}
use lib.ListN.{length}
use Rattle.part_cases.proofs.listings.write_swaps.Given as goal

abbrev pub invariant-loop : goal.invariant-loop
invariant-loop g l = length l.store ≡ length l.initial.store
