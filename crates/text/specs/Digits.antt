-- The decimal digits of a number. Only connecting: the fuel never runs out, and `digits` is the one function of which this holds: n has the one
-- digit n below 10, and else the digits of n / 10 and then n % 10 (proofs/Putting.antt: `digits_one`, `digits_more`, `digits_only`).
use Rattle.std.specs.Prelude.{ℕ, zero, suc, ◌/◌, ◌%◌, Bool, true, false, List, [], ◌∷◌, ◌++◌, nat_lt}

-- the digits of n, where `small` tells whether n is below 10; `fuel` is at least n
unfoldable pub digits_by : (fuel : ℕ) (small : Bool) → ℕ → List ℕ
digits_by zero small n = n ∷ []
digits_by (suc fuel) true n = n ∷ []
digits_by (suc fuel) false n = digits_by fuel (nat_lt (n / 10) 10) (n / 10) ++ (n % 10 ∷ [])

unfoldable pub digits : ℕ → List ℕ
digits n = digits_by n (nat_lt n 10) n
