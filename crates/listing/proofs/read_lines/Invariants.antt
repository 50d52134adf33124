-- `read_lines` meets its contract: the invariant is `Going`. The measure is how many lines are still allowed. Assumes nothing.
use Prim.Native.Nat.{◌+◌, ◌-◌}
use Rattle.store.specs.Held.{lent}
use Rattle.listing.proofs.Whole.{Going, Same}
use Rattle.listing.proofs.read_lines.Given as goal

abbrev pub invariant-loop-first : goal.invariant-loop-first
invariant-loop-first l = Going l.substituting l.s (lent l.initial.store l.initial.desk) (lent l.store l.desk) l.table l.rest l.p × Same l.initial.store l.initial.table l.store l.table

abbrev pub decreases-loop-first : goal.decreases-loop-first
decreases-loop-first l = 1281 - (l.p.lines + l.p.swaps)
