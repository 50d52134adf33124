-- A double and its bits: the one NaN, and there and back. Assumes nothing.
use Rattle.std.proofs.Common.{◌≡◌, ℕ, ◌%◌, ◌^◌, ◌<◌, Bool, true, false, not, T, ltb, sym, refl, ap, ◌∙◌, subst}
use lib.Ieee.{Float, nan, inf, fin, is_nan, ne, fits, binary64, to_bits, of_bits, div}
use lib.Ieee.Bits.{of_bits-fits, of_bits-to_bits, to_bits-of_bits, to_bits-lt, nan_bits_is, nan_bits_above}
use lib.Ieee.Compare.{differs_from_itself}
use Rattle.complex.specs.Bits.{bits_of, double_of, nan_pattern, Canonical}

-- ---- the NaN

pub bits_of_nan : bits_of nan ≡ nan_pattern
unfolding to_bits
bits_of_nan = refl

-- what differs from itself is the NaN, and nothing else does
pub differs : (x : Float) → ne x x ≡ true → x ≡ nan
differs x h = differs_from_itself x (subst T (sym h) tt)

pub agrees : (x : Float) → ne x x ≡ false → T (not (is_nan x))
unfolding ne is_nan
agrees nan h = subst T h tt
agrees (inf s) h = tt
agrees (fin s m e) h = tt

pub is_nan_lem : (x : Float) → T (is_nan x) → nan ≡ x
unfolding is_nan
is_nan_lem nan h = refl
is_nan_lem (inf s) h = absurd h
is_nan_lem (fin s m e) h = absurd h

-- 0.0 / 0.0 makes it
pub zero_over_zero : div binary64 (double_of 0) (double_of 0) ≡ nan
unfolding div of_bits
zero_over_zero = refl

-- bits past the infinity's, the sign left out, are a NaN's, and no others are
pub nan_above : (b : ℕ) → is_nan (double_of b) ≡ ltb 0x7FF0_0000_0000_0000 (b % 2 ^ 63)
nan_above b = sym (nan_bits_is binary64 b) ∙ nan_bits_above binary64 b

-- ---- there and back

-- a double is what its bits stand for
pub double_back : (x : Float) → T (fits binary64 x) → double_of (bits_of x) ≡ x
double_back x = of_bits-to_bits binary64 x

pub bits_below : (x : Float) → T (fits binary64 x) → bits_of x < 2 ^ 64
bits_below x = to_bits-lt binary64 x

pub bits_canonical : (x : Float) → T (fits binary64 x) → Canonical (bits_of x)
bits_canonical x f =
    record {
      wide = bits_below x f;
      one_nan = λ h. ap bits_of (sym (is_nan_lem x (subst (λ (y : Float). T (is_nan y)) (double_back x f) h))) ∙ bits_of_nan;
    }

-- whatever bits are read, those of the double that they stand for are canonical
pub read_canonical : (b : ℕ) → Canonical (bits_of (double_of b))
read_canonical b = bits_canonical (double_of b) (of_bits-fits binary64 b)

-- and canonical bits are those of what they stand for
pub bits_back : (b : ℕ) → Canonical b → bits_of (double_of b) ≡ b
bits_back b h = go (is_nan (double_of b)) refl
  where
    go : (t : Bool) → is_nan (double_of b) ≡ t → bits_of (double_of b) ≡ b
    go true e =
        let n = subst T (sym e) tt in
        ap bits_of (sym (is_nan_lem (double_of b) n)) ∙ bits_of_nan ∙ sym (h.one_nan n)
    go false e = to_bits-of_bits binary64 b h.wide (subst (λ (t : Bool). T (not t)) (sym e) tt)

-- so doubles with the same bits are the same double
pub same_bits : (x y : Float) → T (fits binary64 x) → T (fits binary64 y) → bits_of x ≡ bits_of y → x ≡ y
same_bits x y p q e = sym (double_back x p) ∙ ap double_of e ∙ double_back y q
