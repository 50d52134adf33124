-- `listing_length` meets its contract. The invariant: `before` is the byte before this place, and no empty line stands
-- at a place that was passed. Assumes nothing.
use Prim.Native.Nat.{ℕ, ◌<◌}
use mathlib.Core.Path.{◌≡◌}
use mathlib.Core.List.{◌∷◌}
use lib.ListN.{get_or}
use Rattle.console.specs.Parting.{EmptyLine}
use Rattle.console.proofs.input.listing_length.Given as goal

abbrev pub invariant-loop-at : goal.invariant-loop-at
invariant-loop-at l = (l.before ≡ get_or (10 ∷ l.text) l.at 0) × ((k : ℕ) → k < l.at → EmptyLine l.text k → ⊥)
