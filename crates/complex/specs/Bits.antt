-- A double and its 64 bits: lib.Ieee's `to_bits` and `of_bits` at binary64, where every NaN is one value. Its bits are 7FF8000000000000,
-- and every NaN pattern reads as it. Definitions only.
use Rattle.std.specs.Prelude.{◌≡◌, ℕ, ◌^◌, ◌<◌, T, from_bits, is_nan, to_bits, Float}
use Rattle.std.specs.Float.{binary64}
use Rattle.std.specs.Float.Ieee.{fits}
use Rattle.complex.specs.declared.Complex.{Complex}

abbrev pub bits_of : Float → ℕ
bits_of x = to_bits binary64 x

abbrev pub double_of : ℕ → Float
double_of b = from_bits binary64 b

abbrev pub nan_pattern : ℕ
nan_pattern = 0x7FF8_0000_0000_0000

-- 64 bits of a double, and of a NaN only the one pattern
pub record Canonical (b : ℕ) : Type 0 where
  pub wide : b < 2 ^ 64
  pub one_nan : T (is_nan (double_of b)) → b ≡ nan_pattern

-- both parts are doubles, as those of every `Complex` that a program holds are
pub record Fitting (z : Complex) : Type 0 where
  pub re : T (fits binary64 z.re)
  pub im : T (fits binary64 z.im)
