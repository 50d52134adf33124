-- The node that is found for a variable among the s lines in a table is the one that the definition finds. Assumes nothing.
use mathlib.Core.Path.{◌≡◌, refl, ap, ◌∙◌}
use mathlib.Core.List.{List, [], ◌∷◌}
use mathlib.Core.Bool.{Bool}
use Prim.Native.Nat.{ℕ, ◌+◌, ◌*◌, ◌<◌}
use native.Mathlib.Omega.{arith}
use lib.ListN.{get_or}
use lib.Dec.{eqb}
use Rattle.std.specs.Prelude.{Some, None}
use Rattle.store.specs.Desk.{count}
use Rattle.store.specs.Held.{Lent, tree_in}
use Rattle.memory.specs.Layout.{swaps_from}
use Rattle.memory.specs.Keys.{key_at, FirstOf, holds}
use Rattle.memory.proofs.Values.{first, first_found, first_missing_lem}
use Rattle.listing.specs.Listings.{Swap, swap, Named, names, nothing, swap_for}
use Rattle.listing.specs.Tables.{swap_trees, Lists}

for : ℕ → Swap → Bool
for v (swap v' t) = eqb v v'

named : Swap → Named
named (swap v t) = names t

swaps_first : (v : ℕ) (ss : List Swap) → first (for v) named nothing ss ≡ swap_for v ss
unfolding first swap_for for named
swaps_first v [] = refl
swaps_first v (swap v' t ∷ ss) = rw (swaps_first v ss)

row_key : (table : List ℕ) (j : ℕ) → get_or table (swaps_from + 2 * j) 0 ≡ key_at table swaps_from 2 j
row_key table j = let z : swaps_from + 2 * j ≡ 2 * j + swaps_from = omega arith in rw z

module _ {l : Lent} {table : List ℕ} {swaps : ℕ} (li : Lists l table 0 swaps) (v : ℕ) where
  pub swap_found : {r node : ℕ} → FirstOf (holds (key_at table swaps_from 2) v) swaps (Some r) → node ≡ get_or table (swaps_from + 2 * r + 1) 0
      → (names (tree_in l node) ≡ swap_for v (swap_trees l.rows table swaps)) × (node < count l.desk)
  unfolding for named
  swap_found {r} s e =
      rw e (
        first_found (for v) named nothing swaps _ r s.0 (ap (eqb v) (row_key table r) ∙ s.1.hit s.0) (λ j o. ap (eqb v) (row_key table j) ∙ s.1.before j o)
            ∙ swaps_first v (swap_trees l.rows table swaps),
        li.named r s.0,
      )

  pub swap_missing : FirstOf (holds (key_at table swaps_from 2) v) swaps None → nothing ≡ swap_for v (swap_trees l.rows table swaps)
  unfolding for
  swap_missing s = first_missing_lem (for v) named nothing swaps _ (λ j o. ap (eqb v) (row_key table j) ∙ s j o) ∙ swaps_first v (swap_trees l.rows table swaps)
