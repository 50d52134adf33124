-- How long the text of an origin is. Assumes nothing.
use mathlib.Core.Path.{◌≡◌, refl, sym}
use mathlib.Core.List.{◌∷◌}
use Prim.Native.Nat.{ℕ, zero, suc, ◌+◌, ◌-◌, ◌≤◌, ◌<◌}
use native.Mathlib.Numerals.{add-one}
use native.Mathlib.Omega.{arith}
use native.Mathlib.Decide.{dec_lt}
use lib.ListN.{length}
use Rattle.text.specs.Writing.{in_decimal}
use Rattle.text.proofs.Putting.{one_length, more_length, few_digits}
use Rattle.origins.specs.Fields.{origin_text}

-- ---- a number of a line

pub some_digit : (n : ℕ) → 1 ≤ length (in_decimal n)
some_digit n = elim (dec_lt n 10) [ yes lt ↦ omega (arith, one_length n lt) | no ge ↦ omega (arith, more_length n (omega arith)) ]

pub line_short : (n : ℕ) → n < 1024 → length (in_decimal n) ≤ 4
line_short n h = few_digits 3 n (omega (arith, h))

-- ---- an origin

pub none_length : {o : ℕ} → o ≡ 0 → 2 ≡ length (origin_text o)
unfolding origin_text
none_length h = rw h

pub some_text : (o : ℕ) → (o ≡ 0 → ⊥) → origin_text o ≡ 64 ∷ in_decimal (o - 1)
unfolding origin_text
some_text zero h = absurd (h refl)
some_text (suc o) h = let z : suc o - 1 ≡ o = omega arith in rw z

pub some_length : (o : ℕ) → (o ≡ 0 → ⊥) → length (origin_text o) ≡ length (in_decimal (o - 1)) + 1
some_length o h = rw (some_text o h) (sym (add-one (length (in_decimal (o - 1)))))

pub text_long : (o : ℕ) → 2 ≤ length (origin_text o)
unfolding origin_text
text_long zero = omega arith
text_long (suc n) = omega (arith, some_digit n)

pub text_short : (o : ℕ) → o ≤ 1024 → length (origin_text o) ≤ 5
unfolding origin_text
text_short zero h = omega arith
text_short (suc n) h = omega (arith, line_short n (omega (arith, h)))
