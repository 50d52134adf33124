-- How numbers and lines are written. Definitions only.
use Rattle.std.specs.Prelude.{ℕ, zero, suc, ◌+◌, ◌-◌, ◌/◌, ◌%◌, cond, List, [], ◌∷◌, ◌++◌, map, nat_lt}
use Rattle.text.specs.Letters.{letter}
use Rattle.text.specs.Reading.{tab, lf}
use Rattle.text.specs.Digits.{digits}

-- the byte of a digit below 16: 0 to 9, A to F
unfoldable pub byte_of : ℕ → ℕ
byte_of d = cond (nat_lt d 10) (letter "0" + d) (letter "A" + (d - 10))

-- n in decimal, without leading zeros. `digits n` is n alone below 10, and else the digits of n / 10 and then n % 10 (proofs/Putting.antt,
-- `digits_one`, `digits_more`)
unfoldable pub in_decimal : ℕ → List ℕ
in_decimal n = map byte_of (digits n)

-- the last k hex digits of n; 64 bits have 16
unfoldable pub last_hex : (k : ℕ) → ℕ → List ℕ
last_hex zero n = []
last_hex (suc k) n = last_hex k (n / 16) ++ (byte_of (n % 16) ∷ [])

unfoldable pub in_hex : ℕ → List ℕ
in_hex = last_hex 16

-- "Lines end in LF, fields are parted by one tab"
unfoldable pub line : List (List ℕ) → List ℕ
line [] = lf ∷ []
line (f ∷ []) = f ++ (lf ∷ [])
line (f ∷ g ∷ fs) = f ++ (tab ∷ line (g ∷ fs))
