-- `search` meets its contract. The invariant is `Halving`; the measure is what is left to be halved. Assumes nothing.
use Prim.Native.Nat.{◌-◌}
use Rattle.memory.specs.Keys.{key_at}
use Rattle.memory.proofs.Seeking.{Halving}
use Rattle.memory.proofs.halving.search.Given as goal

abbrev pub invariant-loop-low : goal.invariant-loop-low
invariant-loop-low l = Halving (key_at l.table l.from l.step) l.count l.key l.low l.high

abbrev pub decreases-loop-low : goal.decreases-loop-low
decreases-loop-low l = l.high - l.low
