-- 01, "Zero, one": the exact zero test, in whole multiples of the least subnormal, and the one test. Definitions only.
use Rattle.std.specs.Prelude.{ℕ, ◌+◌, ◌*◌, ◌/◌, ◌^◌, Bool, ◌&&◌, nat_lt, Float}
use Rattle.std.specs.Float.{nan, inf, fin}
use Rattle.std.specs.Float.Ieee.{up, down}
use Rattle.std.specs.Float.Ieee.Scale.{finite}
use Rattle.complex.specs.declared.Complex.{Complex}
use Rattle.complex.specs.Arithmetic.{◌⊖◌}
use Rattle.complex.specs.Bits.{double_of}

-- |x| as a multiple of the least subnormal, 2 ^ -1074. A finite x is m * 2 ^ e, and 2 ^ e is up e / down e. Of a double nothing is
-- cut off (proofs/Magnitude.antt, `magnitude_exact`).
unfoldable pub magnitude : Float → ℕ
magnitude nan = 0
magnitude (inf s) = 0
magnitude (fin s m e) = m * up e * 2 ^ 1074 / down e

-- T, the double nearest 1e-10
abbrev pub threshold : Float
threshold = double_of 0x3DDB_7CDF_D9D7_BDBB

-- the sum of two squares is below T squared
unfoldable pub squares_below : ℕ → ℕ → Bool
squares_below a b = nat_lt (a * a + b * b) (magnitude threshold * magnitude threshold)

-- finite, and its parts' squares are below T squared
unfoldable pub is_zero : Complex → Bool
is_zero z = finite z.re && finite z.im && squares_below (magnitude z.re) (magnitude z.im)

-- 1.0 subtracted from the real part, rounded, makes a zero
unfoldable pub is_one : Complex → Bool
is_one z = is_zero (record { re = z.re ⊖ double_of 0x3FF0_0000_0000_0000; im = z.im })
