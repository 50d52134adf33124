-- `call_cases::run_list` is safe and ends: the cases are counted up to a bound, and no more of them are wrong than there were. Assumes nothing.
use Prim.Native.Nat.{◌≤◌, ◌-◌}
use Rattle.call_cases.proofs.run_list.Given as goal

abbrev pub invariant-loop-count : goal.invariant-loop-count
invariant-loop-count l = l.wrong ≤ l.count

abbrev pub decreases-loop-count : goal.decreases-loop-count
decreases-loop-count l = 1000000 - l.count
