-- `part_cases::vectors::run` is safe and ends: the vectors are counted up to a bound, and no more of them are wrong than there were. Assumes nothing.
use Prim.Native.Nat.{◌≤◌, ◌-◌}
use Rattle.part_cases.proofs.vectors.run.Given as goal

abbrev pub invariant-loop-count : goal.invariant-loop-count
invariant-loop-count g l = l.wrong ≤ l.count

abbrev pub decreases-loop-count : goal.decreases-loop-count
decreases-loop-count g l = 1000000 - l.count
