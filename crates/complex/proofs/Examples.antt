-- Worked examples of the definitions, which antt computes: the constants' bits, the zero and one tests at their boundary, the formulas.
-- Assumes nothing.
use Rattle.std.proofs.Common.{◌≡◌, ℕ, ◌^◌, Bool, true, false, not, ◌&&◌, T, eqb, List, [], ◌∷◌, refl}
use lib.Ieee.{binary64, add, sub, mul, div, neg, round, eq, is_nan, to_bits, of_bits}
use Rattle.complex.specs.declared.Complex.{Complex}
use Rattle.complex.specs.Arithmetic.{times, over, negated}
use Rattle.complex.specs.Bits.{bits_of, double_of}
use Rattle.complex.specs.Constants.{of_parts, zero_number, one_number, two_number, minus_one_number, pi_number, nan_number}
use Rattle.complex.specs.Equality.{identical_doubles, equal_doubles}
use Rattle.complex.specs.Classes.{class_of, class_of_bits}
use Rattle.complex.specs.Zero.{magnitude, threshold, squares_below, is_zero, is_one}

-- both parts of a number have these bits
abbrev has_bits : Complex → ℕ → ℕ → Bool
has_bits z re im = eqb (bits_of z.re) re && eqb (bits_of z.im) im

all : List Bool → Bool
all [] = true
all (b ∷ bs) = b && all bs

-- T is the double nearest 1 / 10 ^ 10
t_nearest : round binary64 false 1 (10 ^ 10) ≡ threshold
unfolding round of_bits
t_nearest = refl

constants : T (all
    (has_bits zero_number 0 0
    ∷ has_bits one_number 0x3FF0_0000_0000_0000 0
    ∷ has_bits two_number 0x4000_0000_0000_0000 0
    ∷ has_bits minus_one_number 0xBFF0_0000_0000_0000 0x8000_0000_0000_0000
    ∷ has_bits (negated one_number) 0xBFF0_0000_0000_0000 0x8000_0000_0000_0000
    ∷ has_bits pi_number 0x4009_21FB_5444_2D18 0
    ∷ has_bits nan_number 0x7FF8_0000_0000_0000 0
    ∷ eqb (bits_of threshold) 0x3DDB_7CDF_D9D7_BDBB
    ∷ []))
unfolding all negated neg to_bits of_bits
constants = tt

-- 0 and -0 are equal and not identical; every NaN pattern is the one NaN
equalities : T (all
    (equal_doubles (double_of 0) (double_of 0x8000_0000_0000_0000)
    ∷ not (identical_doubles (double_of 0) (double_of 0x8000_0000_0000_0000))
    ∷ identical_doubles (double_of 0x7FF8_0000_0000_0000) (double_of 0xFFF0_0000_0000_0001)
    ∷ not (equal_doubles (double_of 0x7FF0_0000_0000_0000) (double_of 0xFFF0_0000_0000_0000))
    ∷ eqb (class_of (double_of 0x8000_0000_0000_0000)) 0
    ∷ []))
unfolding all equal_doubles identical_doubles class_of class_of_bits eq is_nan to_bits of_bits
equalities = tt

-- T itself is not zero in either part, the double below it is, also beside the least subnormal, and so is 1e-11; on the diagonal the
-- last double inside the circle and the first outside; infinity and NaN are not
zeros : T (all
    (not (is_zero (of_parts 0x3DDB_7CDF_D9D7_BDBB 0))
    ∷ not (is_zero (of_parts 0 0xBDDB_7CDF_D9D7_BDBB))
    ∷ is_zero (of_parts 0 0xBDDB_7CDF_D9D7_BDBA)
    ∷ is_zero (of_parts 0x3DDB_7CDF_D9D7_BDBA 1)
    ∷ is_zero (of_parts 0x3DA5_FD7F_E179_6495 0x8000_0000_0000_0000)
    ∷ is_zero (of_parts 0x3DD3_6FD2_55A2_213B 0xBDD3_6FD2_55A2_213B)
    ∷ not (is_zero (of_parts 0x3DD3_6FD2_55A2_213C 0xBDD3_6FD2_55A2_213C))
    ∷ not (is_zero (of_parts 0 0xFFF0_0000_0000_0000))
    ∷ not (is_zero (of_parts 0x7FF8_0000_0000_0000 0))
    ∷ []))
unfolding all is_zero squares_below magnitude of_bits
zeros = tt

ones : T (all
    (is_one (of_parts 0x3FF0_0000_0000_0000 0)
    ∷ is_one (of_parts 0x3FF0_0000_0000_0001 0x8000_0000_0000_0000)
    ∷ not (is_one (of_parts 0 0x3FF0_0000_0000_0000))
    ∷ not (is_one (of_parts 0xBFF0_0000_0000_0000 0))
    ∷ []))
unfolding all is_one is_zero squares_below magnitude sub of_bits
ones = tt

-- (1+2i)(3+4i) = -5+10i; (-5+10i)/(3+4i) = 1+2i; 1/0 is NaN in both parts
formulas : T (all
    (has_bits (times (of_parts 0x3FF0_0000_0000_0000 0x4000_0000_0000_0000) (of_parts 0x4008_0000_0000_0000 0x4010_0000_0000_0000)) 0xC014_0000_0000_0000 0x4024_0000_0000_0000
    ∷ has_bits (over (of_parts 0xC014_0000_0000_0000 0x4024_0000_0000_0000) (of_parts 0x4008_0000_0000_0000 0x4010_0000_0000_0000)) 0x3FF0_0000_0000_0000 0x4000_0000_0000_0000
    ∷ has_bits (over one_number zero_number) 0x7FF8_0000_0000_0000 0x7FF8_0000_0000_0000
    ∷ []))
unfolding all times over add sub mul div to_bits of_bits
formulas = tt
