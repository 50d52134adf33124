-- A double's magnitude by its bits: their fields give it, with nothing cut off, and it rises with them. Assumes nothing.
use Rattle.std.proofs.Common.{◌≡◌, ℕ, zero, suc, ◌+◌, ◌*◌, ◌/◌, ◌%◌, ◌^◌, ◌<◌, ◌≤◌, Bool, true, false, cond, T, eqb, leb, sym, ap, ◌∙◌, subst, le_trans, le_of_eq, lt_of_lt_of_le, le-add_right, le_of_lt, mul-le-mul_right, mul_assoc, mul_comm, mul-le-mul_left, mul-lt-mul_of_pos_right, pow-suc, mul-one, mul-div_cancel, arith, pow_pos, pow_mono}
use native.Mathlib.Decide.{dec_lt}
use lib.Pow.{mod-mod-pow}
use lib.Ieee.{Float, nan, inf, fin, binary64, down, odd, of_fields, of_bits, fits}
use lib.Ieee.Fits.{down_pos}
use lib.Ieee.Exact.{HasValue, odd_sign}
use lib.Ieee.Scale.{finite}
use Rattle.complex.specs.Bits.{bits_of, double_of}
use Rattle.complex.specs.Zero.{magnitude}
use Rattle.complex.specs.Parts.{magnitude_of_fields, magnitude_of_bits}
use Rattle.complex.proofs.Doubles.{double_back}

-- ---- the value that bits stand for

value_of_fields : (s : Bool) (x t : ℕ) → T (finite (of_fields binary64 s x t)) → HasValue (of_fields binary64 s x t) s (magnitude_of_fields x t) (2 ^ 1074)
unfolding of_fields magnitude_of_fields
value_of_fields s zero t h = subst (λ (n : ℕ). HasValue (odd 53 s t 0 1074) s n (2 ^ 1074)) (mul-one t) (odd_sign 53 s t 0 1074)
value_of_fields s (suc x) t h = go (eqb (suc x) 2047) (eqb t 0) h
  where
    o : Float
    o = odd 53 s (2 ^ 52 + t) x 1074

    go : (b z : Bool) → T (finite (cond b (cond z (inf s) nan) o)) → HasValue (cond b (cond z (inf s) nan) o) s ((2 ^ 52 + t) * 2 ^ x) (2 ^ 1074)
    go true true h = absurd h
    go true false h = absurd h
    go false z h = odd_sign 53 s (2 ^ 52 + t) x 1074

by_fields : (b : ℕ) → double_of b ≡ of_fields binary64 (leb (2 ^ 63) b) (b % 2 ^ 63 / 2 ^ 52) (b % 2 ^ 63 % 2 ^ 52)
unfolding of_bits
by_fields b = ap (of_fields binary64 (leb (2 ^ 63) b) (b % 2 ^ 63 / 2 ^ 52)) (sym (mod-mod-pow b 11 52))

value_of_bits : (b : ℕ) → T (finite (double_of b)) → HasValue (double_of b) (leb (2 ^ 63) b) (magnitude_of_bits (b % 2 ^ 63)) (2 ^ 1074)
unfolding magnitude_of_bits
value_of_bits b h =
    let s = leb (2 ^ 63) b in
    let x = b % 2 ^ 63 / 2 ^ 52 in
    let t = b % 2 ^ 63 % 2 ^ 52 in
    subst (λ (f : Float). HasValue f s (magnitude_of_fields x t) (2 ^ 1074)) (sym (by_fields b))
    (value_of_fields s x t (subst (λ (f : Float). T (finite f)) (by_fields b) h))

magnitude_of_value : (x : Float) (s : Bool) (n : ℕ) → HasValue x s n (2 ^ 1074) → magnitude x ≡ n
unfolding magnitude
magnitude_of_value nan s n h = absurd h
magnitude_of_value (inf t) s n h = absurd h
magnitude_of_value (fin t m e) s n h = ap (λ (z : ℕ). z / down e) h.1 ∙ mul-div_cancel n (down_pos e)

module _ (x : Float) (f : T (fits binary64 x)) (h : T (finite x)) where
  value_of_own_bits : HasValue x (leb (2 ^ 63) (bits_of x)) (magnitude_of_bits (bits_of x % 2 ^ 63)) (2 ^ 1074)
  value_of_own_bits =
      subst (λ (y : Float). HasValue y (leb (2 ^ 63) (bits_of x)) (magnitude_of_bits (bits_of x % 2 ^ 63)) (2 ^ 1074)) (double_back x f)
      (value_of_bits (bits_of x) (subst (λ (y : Float). T (finite y)) (sym (double_back x f)) h))

  pub magnitude_by_bits : magnitude x ≡ magnitude_of_bits (bits_of x % 2 ^ 63)
  magnitude_by_bits = magnitude_of_value x (leb (2 ^ 63) (bits_of x)) (magnitude_of_bits (bits_of x % 2 ^ 63)) value_of_own_bits

  -- the definition cuts nothing off: in size, x is magnitude x / 2 ^ 1074, exactly
  pub magnitude_exact : HasValue x (leb (2 ^ 63) (bits_of x)) (magnitude x) (2 ^ 1074)
  magnitude_exact = subst (λ (n : ℕ). HasValue x (leb (2 ^ 63) (bits_of x)) n (2 ^ 1074)) (sym magnitude_by_bits) value_of_own_bits

-- ---- it rises with the bits

fields_under : (x t : ℕ) → t < 2 ^ 52 → magnitude_of_fields x t < 2 ^ 52 * 2 ^ x
unfolding magnitude_of_fields
fields_under zero t h = h
fields_under (suc x) t h =
    let s : 2 ^ 52 + t < 2 ^ 53 = omega arith in
    let e : 2 ^ 53 * 2 ^ x ≡ 2 ^ 52 * 2 ^ suc x = mul_assoc (2 ^ 52) 2 (2 ^ x) ∙ ap (λ (n : ℕ). 2 ^ 52 * n) (mul_comm 2 (2 ^ x) ∙ sym (pow-suc 2 x)) in
    lt_of_lt_of_le (mul-lt-mul_of_pos_right s (pow_pos x)) (le_of_eq e)

fields_from_lem : (x t : ℕ) → 2 ^ 52 * 2 ^ x ≤ magnitude_of_fields (suc x) t
unfolding magnitude_of_fields
fields_from_lem x t = mul-le-mul_right (2 ^ x) (le-add_right (2 ^ 52) t)

fraction_rises : (x t u : ℕ) → t < u → magnitude_of_fields x t < magnitude_of_fields x u
unfolding magnitude_of_fields
fraction_rises zero t u h = h
fraction_rises (suc x) t u h =
    let s : 2 ^ 52 + t < 2 ^ 52 + u = omega arith in
    mul-lt-mul_of_pos_right s (pow_pos x)

field_rises : (x y t u : ℕ) → t < 2 ^ 52 → x < y → magnitude_of_fields x t < magnitude_of_fields y u
field_rises x zero t u b h = absurd (omega arith)
field_rises x (suc y) t u b h = lt_of_lt_of_le (fields_under x t b) (le_trans (mul-le-mul_left (2 ^ 52) (pow_mono {i = x} {j = y} (omega arith))) (fields_from_lem y u))

pub rises : (p q : ℕ) → p < q → magnitude_of_bits p < magnitude_of_bits q
unfolding magnitude_of_bits
rises p q h = go (dec_lt (p / 2 ^ 52) (q / 2 ^ 52))
  where
    go : Dec (p / 2 ^ 52 < q / 2 ^ 52) → magnitude_of_fields (p / 2 ^ 52) (p % 2 ^ 52) < magnitude_of_fields (q / 2 ^ 52) (q % 2 ^ 52)
    go (yes l) = field_rises (p / 2 ^ 52) (q / 2 ^ 52) (p % 2 ^ 52) (q % 2 ^ 52) (omega arith) l
    go (no n) =
        let e : p / 2 ^ 52 ≡ q / 2 ^ 52 = omega arith in
        subst (λ (x : ℕ). magnitude_of_fields (p / 2 ^ 52) (p % 2 ^ 52) < magnitude_of_fields x (q % 2 ^ 52)) e
        (fraction_rises (p / 2 ^ 52) (p % 2 ^ 52) (q % 2 ^ 52) (omega arith))

pub rises_le : (p q : ℕ) → p ≤ q → magnitude_of_bits p ≤ magnitude_of_bits q
rises_le p q h = go (dec_lt p q)
  where
    go : Dec (p < q) → magnitude_of_bits p ≤ magnitude_of_bits q
    go (yes l) = le_of_lt (rises p q l)
    go (no n) =
        let e : p ≡ q = omega arith in
        le_of_eq (ap magnitude_of_bits e)
