-- Equal doubles, and no others, have the same class number, and identical ones are equal. Assumes nothing.
use Rattle.std.proofs.Common.{◌≡◌, ℕ, ◌+◌, ◌-◌, ◌*◌, ◌/◌, ◌^◌, Bool, true, false, cond, T, eqb, ℤ, sym, refl, ap, ◌∙◌, subst, inl, inr, mul_right_comm, eqb→eq}
use native.Mathlib.Nat.{zero-div}
use lib.Ieee.{Float, fin, binary64, up, down, hid, top, size, eq, to_bits, of_bits, fits}
use lib.Ieee.Fits.{down_pos, eq→eqb}
use lib.Ieee.Nearest.{div_same}
use Rattle.complex.specs.Bits.{bits_of, double_of}
use Rattle.complex.specs.Equality.{identical_doubles, equal_doubles}
use Rattle.complex.specs.Classes.{class_of, class_of_bits}
use Rattle.complex.specs.Zero.{magnitude}
use Rattle.complex.proofs.Doubles.{double_back, same_bits}
use Rattle.complex.proofs.Tests.{one_truth}
use Rattle.complex.proofs.Alike.{Alike, nans, infs, fins, alike, equal_refl}

-- ---- equal doubles have one class

-- a finite double's bits, by its sign and its magnitude
bits_by : Bool → ℕ → ℕ
bits_by s n = cond s (top binary64) 0 + (size n - 53) * hid binary64 + n / 2 ^ (size n - 53)

bits_by_lem : (s : Bool) (m : ℕ) (e : ℤ) → bits_of (fin s m e) ≡ bits_by s (magnitude (fin s m e))
unfolding to_bits bits_by magnitude
bits_by_lem s m e = refl

abbrev minus_zero : ℕ
minus_zero = 0x8000_0000_0000_0000

zero_bits : (s : Bool) → bits_by s 0 ≡ cond s minus_zero 0
unfolding bits_by size
zero_bits true = refl
zero_bits false = refl

zero_class : (s : Bool) → class_of_bits (cond s minus_zero 0) ≡ 0
unfolding class_of_bits
zero_class true = refl
zero_class false = refl

same_magnitude : (s : Bool) (m : ℕ) (e : ℤ) (t : Bool) (n : ℕ) (d : ℤ) → m * up e * down d ≡ n * up d * down e → magnitude (fin s m e) ≡ magnitude (fin t n d)
unfolding magnitude
same_magnitude s m e t n d v =
    div_same (m * up e * 2 ^ 1074) (down e) (n * up d * 2 ^ 1074) (down d) (down_pos e) (down_pos d)
    (mul_right_comm (m * up e) (2 ^ 1074) (down d) ∙ ap (λ (x : ℕ). x * 2 ^ 1074) v ∙ mul_right_comm (n * up d) (down e) (2 ^ 1074))

no_magnitude : (s : Bool) (m : ℕ) (e : ℤ) → m * up e ≡ 0 → magnitude (fin s m e) ≡ 0
unfolding magnitude
no_magnitude s m e z = ap (λ (x : ℕ). x * 2 ^ 1074 / down e) z ∙ zero-div (down e)

class_of_zero : (s : Bool) (m : ℕ) (e : ℤ) → magnitude (fin s m e) ≡ 0 → class_of (fin s m e) ≡ 0
unfolding class_of
class_of_zero s m e z = ap class_of_bits (bits_by_lem s m e ∙ ap (bits_by s) z ∙ zero_bits s) ∙ zero_class s

same_class : {x y : Float} → Alike x y → class_of x ≡ class_of y
unfolding class_of
same_class nans = refl
same_class infs = refl
same_class (fins {s} {m} {e} {t} {n} {d} v (inl g)) =
    ap class_of_bits (bits_by_lem s m e ∙ (λ i. bits_by (g i) (same_magnitude s m e t n d v i)) ∙ sym (bits_by_lem t n d))
same_class (fins {s} {m} {e} {t} {n} {d} v (inr z)) =
    let u = no_magnitude s m e z in
    class_of_zero s m e u ∙ sym (class_of_zero t n d (sym (same_magnitude s m e t n d v) ∙ u))

-- ---- and doubles of one class are equal

-- the two zeros, by their bits
zeros_equal : (s t : Bool) → T (equal_doubles (double_of (cond s minus_zero 0)) (double_of (cond t minus_zero 0)))
unfolding equal_doubles eq of_bits
zeros_equal true true = tt
zeros_equal true false = tt
zeros_equal false true = tt
zeros_equal false false = tt

module _ (x y : Float) (p : T (fits binary64 x)) (q : T (fits binary64 y)) where
  both_zero : (s t : Bool) → bits_of x ≡ cond s minus_zero 0 → bits_of y ≡ cond t minus_zero 0 → T (equal_doubles x y)
  both_zero s t e f =
      let a = ap double_of (sym e) ∙ double_back x p in
      let b = ap double_of (sym f) ∙ double_back y q in
      subst T (λ i. equal_doubles (a i) (b i)) (zeros_equal s t)

  of_same_bits : bits_of x ≡ bits_of y → T (equal_doubles x y)
  of_same_bits e = subst (λ (z : Float). T (equal_doubles x z)) (same_bits x y p q e) (equal_refl x)

  of_same_class : class_of x ≡ class_of y → T (equal_doubles x y)
  unfolding class_of class_of_bits
  of_same_class = go (eqb (bits_of x) minus_zero) (eqb (bits_of y) minus_zero) (eqb→eq (bits_of x) minus_zero) (eqb→eq (bits_of y) minus_zero)
    where
      go : (a b : Bool) → (T a → bits_of x ≡ minus_zero) → (T b → bits_of y ≡ minus_zero) → cond a 0 (bits_of x) ≡ cond b 0 (bits_of y) → T (equal_doubles x y)
      go true true f g e = both_zero true true (f tt) (g tt)
      go true false f g e = both_zero true false (f tt) (sym e)
      go false true f g e = both_zero false true e (g tt)
      go false false f g e = of_same_bits e

  -- the law: two doubles are equal exactly where their class numbers are the same
  pub equal_is_same_class : equal_doubles x y ≡ eqb (class_of x) (class_of y)
  equal_is_same_class =
      one_truth (equal_doubles x y) (eqb (class_of x) (class_of y)) (λ h. eq→eqb (same_class (alike x y h))) (λ h. of_same_class (eqb→eq (class_of x) (class_of y) h))

  pub identical_equal : T (identical_doubles x y) → T (equal_doubles x y)
  unfolding identical_doubles
  identical_equal h = of_same_bits (eqb→eq (bits_of x) (bits_of y) h)
