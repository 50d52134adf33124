-- `find` meets its contract. The invariant: all nodes from `at` on have been looked at, and `at` is in the chain. Assumes nothing.
use mathlib.Core.Path.{◌≡◌}
use Rattle.store.specs.Memory.{memory, room, class_at}
use Rattle.store.specs.Index.{key_of, bucket_of, head_for}
use Rattle.store.specs.Held.{Holds}
use Rattle.store.proofs.Walks.{Chained}
use Rattle.store.proofs.index.find.Given as goal

abbrev pub invariant-loop-at : goal.invariant-loop-at
invariant-loop-at l =
    Holds (memory l.store) l.n → l.key ≡ key_of (class_at (memory l.store)) l.f → l.head ≡ head_for (memory l.store) l.n (bucket_of (room (memory l.store)) l.key)
    → Chained (memory l.store) l.n l.f l.key (bucket_of (room (memory l.store)) l.key) l.at l.class

abbrev pub decreases-loop-at : goal.decreases-loop-at
decreases-loop-at l = l.at
