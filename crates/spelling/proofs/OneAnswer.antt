-- The byte of an operator is determined: two that the contract of `prefix_byte` or `infix_byte` allows are equal. What the readers of names and the
-- writers determine is said in text/proofs/OneAnswer. Assumes nothing.
use mathlib.Core.Path.{◌≡◌}
use mathlib.Core.List.{List, [], ◌∷◌}
use Prim.Native.Nat.{ℕ}

pub one_byte : {name : List ℕ} {r r' : ℕ} → name ≡ r ∷ [] → name ≡ r' ∷ [] → r ≡ r'
one_byte p q = cc
