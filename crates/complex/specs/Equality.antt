-- Identical and equal, for doubles and for complex numbers. Definitions only.
use Rattle.std.specs.Prelude.{Bool, ◌&&◌, ◌||◌, ◌==◌, Float}
use Rattle.std.specs.Float.Ieee as Ieee
use Rattle.complex.specs.declared.Complex.{Complex}
use Rattle.complex.specs.Bits.{bits_of}

-- the same bits, all NaNs counted as one
unfoldable pub identical_doubles : Float → Float → Bool
identical_doubles x y = bits_of x == bits_of y

-- equal as floats, so zeros of either sign are equal, or both NaN
unfoldable pub equal_doubles : Float → Float → Bool
equal_doubles x y = Ieee.eq x y || (Ieee.is_nan x && Ieee.is_nan y)

-- part by part
unfoldable pub identical : Complex → Complex → Bool
identical x y = identical_doubles x.re y.re && identical_doubles x.im y.im

unfoldable pub equal : Complex → Complex → Bool
equal x y = equal_doubles x.re y.re && equal_doubles x.im y.im
