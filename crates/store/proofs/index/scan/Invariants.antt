-- `scan` meets its contract. The invariant: all nodes from `node` on have been looked at. Assumes nothing.
use mathlib.Core.Path.{◌≡◌}
use Rattle.store.specs.Memory.{memory, class_at}
use Rattle.store.specs.Index.{key_of}
use Rattle.store.specs.Walk.{Passed}
use Rattle.store.proofs.index.scan.Given as goal

abbrev pub invariant-loop-node : goal.invariant-loop-node
invariant-loop-node l =
    l.key ≡ key_of (class_at (memory l.store)) l.f → Passed (memory l.store) l.n l.f l.key l.at l.class → Passed (memory l.store) l.n l.f l.key l.node l.kin
