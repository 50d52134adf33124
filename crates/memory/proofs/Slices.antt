-- Laws of lists of numbers that the logic's library lacks: past the end. Assumes nothing.
use mathlib.Core.Path.{◌≡◌, refl}
use mathlib.Core.List.{List, [], ◌∷◌}
use Prim.Native.Nat.{ℕ, zero, suc, ◌≤◌}
use native.Mathlib.Omega.{arith}
use lib.ListN.{length, get_or}

pub get_or_out : {A : Type 0} (l : List A) (i : ℕ) (d : A) → length l ≤ i → get_or l i d ≡ d
get_or_out [] i d h = refl
get_or_out (x ∷ l) zero d h = absurd (omega arith)
get_or_out (x ∷ l) (suc i) d h = get_or_out l i d (omega arith)
