-- A magnitude by the fields of its bit pattern, and by a significand and a scale. Connects only: no public contract mentions it.
-- Definitions only.
use Rattle.std.specs.Prelude.{◌≡◌, ℕ, zero, suc, ◌+◌, ◌-◌, ◌*◌, ◌/◌, ◌%◌, ◌^◌, ◌<◌, ◌≤◌}
use Rattle.complex.specs.declared.parts.Part.{Part}

-- an exponent's field x and a fraction t: a field of 0 has no leading digit, and counts as a field of 1
unfoldable pub magnitude_of_fields : ℕ → ℕ → ℕ
magnitude_of_fields zero t = t
magnitude_of_fields (suc x) t = (2 ^ 52 + t) * 2 ^ x

-- the magnitude of the double whose bits without the sign are b
unfoldable pub magnitude_of_bits : ℕ → ℕ
magnitude_of_bits b = magnitude_of_fields (b / 2 ^ 52) (b % 2 ^ 52)

-- n is significand * 2 ^ scale / 2 ^ 53, with bit 52 of the significand as its highest set bit, and p is 0 and 0 if n is 0
pub record Scaled (n : ℕ) (p : Part) : Type 0 where
  pub value : n * 2 ^ 53 ≡ p.significand * 2 ^ p.scale
  pub small : p.significand < 2 ^ 53
  pub top : 0 < p.scale → 2 ^ 52 ≤ p.significand

-- its square, cut off at the square of T's last place: T's scale is 1041
abbrev pub cut_square : Part → ℕ
cut_square p = p.significand * p.significand / (2 ^ (1041 - p.scale) * 2 ^ (1041 - p.scale))
