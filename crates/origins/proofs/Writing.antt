-- The text of an origin, written after its `@`. Assumes nothing.
use mathlib.Core.List.{List, [], ◌∷◌}
use mathlib.Core.Path.{◌≡◌}
use Prim.Native.Nat.{ℕ, ◌-◌}
use Rattle.text.specs.Writing.{in_decimal}
use Rattle.text.specs.Put.{Put}
use Rattle.text.proofs.Putting.{put_then}
use Rattle.origins.specs.Fields.{origin_text}
use Rattle.origins.proofs.Lengths.{some_text}

module _ {e m x : List ℕ} {at p r : ℕ} {o : ℕ} (a : Put e at (64 ∷ []) p m) where
  pub none_put : o ≡ 0 → Put m p (45 ∷ []) r x → Put e at (origin_text o) r x
  unfolding origin_text
  none_put h b = rw h (put_then a b)

  pub some_put : (o ≡ 0 → ⊥) → Put m p (in_decimal (o - 1)) r x → Put e at (origin_text o) r x
  some_put h b = rw (some_text o h) (put_then a b)
