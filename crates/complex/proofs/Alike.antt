-- What makes two doubles equal, by cases: both NaN, the same infinity, or the same number with zeros of either sign. So equality is an
-- equivalence. Assumes nothing.
use Rattle.std.proofs.Common.{◌≡◌, ℕ, ◌*◌, Bool, true, false, ◌&&◌, ◌||◌, T, eqb, ◌⊎◌, ℤ, sym, refl, ap, ◌∙◌, subst, inl, inr, zero-mul, mul_right_comm, eqb→eq}
use mathlib.Core.Bool.{beq}
use native.Mathlib.Nat.{eq_of_mul-eq-mul_right}
use lib.Ieee.{Float, nan, inf, fin, up, down, is_nan, eq}
use lib.Ieee.Fits.{down_pos, and_i, and_l, and_r, eq→eqb}
use Rattle.complex.specs.Equality.{equal_doubles}

-- m * 2 ^ e and n * 2 ^ d are the same number, and have the same sign or are zeros
pub data Alike : Float → Float → Type 0 where
  nans : Alike nan nan
  infs : {s : Bool} → Alike (inf s) (inf s)
  fins : {s : Bool} {m : ℕ} {e : ℤ} {t : Bool} {n : ℕ} {d : ℤ} → m * up e * down d ≡ n * up d * down e → (s ≡ t) ⊎ (m * up e ≡ 0) → Alike (fin s m e) (fin t n d)

-- ---- the definition's Booleans

zero_of : (a : ℕ) (d : ℤ) → a * down d ≡ 0 → a ≡ 0
zero_of a d h = eq_of_mul-eq-mul_right (down d) (down_pos d) a 0 (h ∙ sym (zero-mul (down d)))

or_left : (b : Bool) → T (b || false) → T b
or_left true h = tt
or_left false h = h

left_or : (b : Bool) → T b → T (b || false)
left_or true h = tt
left_or false h = absurd h

sign_of_test : (s t : Bool) (a : ℕ) → T (beq s t || eqb a 0) → (s ≡ t) ⊎ (a ≡ 0)
sign_of_test true true a h = inl refl
sign_of_test false false a h = inl refl
sign_of_test true false a h = inr (eqb→eq a 0 h)
sign_of_test false true a h = inr (eqb→eq a 0 h)

test_of_sign : (s t : Bool) (a : ℕ) → (s ≡ t) ⊎ (a ≡ 0) → T (beq s t || eqb a 0)
test_of_sign true true a h = tt
test_of_sign false false a h = tt
test_of_sign true false a (inl e) = absurd (subst T e tt)
test_of_sign true false a (inr z) = eq→eqb z
test_of_sign false true a (inl e) = absurd (subst T (sym e) tt)
test_of_sign false true a (inr z) = eq→eqb z

cancelled : {s t : Bool} (a : ℕ) (d : ℤ) → (s ≡ t) ⊎ (a * down d ≡ 0) → (s ≡ t) ⊎ (a ≡ 0)
cancelled a d (inl e) = inl e
cancelled a d (inr z) = inr (zero_of a d z)

scaled : {s t : Bool} (a : ℕ) (d : ℤ) → (s ≡ t) ⊎ (a ≡ 0) → (s ≡ t) ⊎ (a * down d ≡ 0)
scaled a d (inl e) = inl e
scaled a d (inr z) = inr (ap (λ (n : ℕ). n * down d) z ∙ zero-mul (down d))

inf_of_test : (s t : Bool) → T (beq s t || false) → Alike (inf s) (inf t)
inf_of_test true true h = infs
inf_of_test false false h = infs
inf_of_test true false h = absurd h
inf_of_test false true h = absurd h

pub alike : (x y : Float) → T (equal_doubles x y) → Alike x y
unfolding equal_doubles eq is_nan
alike nan nan h = nans
alike nan (inf t) h = absurd h
alike nan (fin t n d) h = absurd h
alike (inf s) nan h = absurd h
alike (inf s) (inf t) h = inf_of_test s t h
alike (inf s) (fin t n d) h = absurd h
alike (fin s m e) nan h = absurd h
alike (fin s m e) (inf t) h = absurd h
alike (fin s m e) (fin t n d) h =
    let a = m * up e * down d in
    let b = n * up d * down e in
    let l = or_left (eqb a b && (beq s t || eqb a 0)) h in
    fins (eqb→eq a b (and_l (eqb a b) (beq s t || eqb a 0) l)) (cancelled (m * up e) d (sign_of_test s t a (and_r (eqb a b) (beq s t || eqb a 0) l)))

inf_equals_itself : (s : Bool) → T (beq s s || false)
inf_equals_itself true = tt
inf_equals_itself false = tt

pub equal_of : {x y : Float} → Alike x y → T (equal_doubles x y)
unfolding equal_doubles eq is_nan
equal_of nans = tt
equal_of (infs {s}) = inf_equals_itself s
equal_of (fins {s} {m} {e} {t} {n} {d} v g) =
    let a = m * up e * down d in
    let b = n * up d * down e in
    left_or (eqb a b && (beq s t || eqb a 0)) (and_i (eqb a b) (beq s t || eqb a 0) (eq→eqb v) (test_of_sign s t a (scaled (m * up e) d g)))

-- ---- an equivalence

alike_refl : (x : Float) → Alike x x
alike_refl nan = nans
alike_refl (inf s) = infs
alike_refl (fin s m e) = fins refl (inl refl)

-- of two fractions a / c and b / d that are equal, one is 0 if the other is
other_zero : (a b : ℕ) (c d : ℤ) → a * down d ≡ b * down c → a ≡ 0 → b ≡ 0
other_zero a b c d v z = zero_of b c (sym v ∙ ap (λ (n : ℕ). n * down d) z ∙ zero-mul (down d))

alike_sym : {x y : Float} → Alike x y → Alike y x
alike_sym nans = nans
alike_sym infs = infs
alike_sym (fins {s} {m} {e} {t} {n} {d} v (inl g)) = fins (sym v) (inl (sym g))
alike_sym (fins {s} {m} {e} {t} {n} {d} v (inr z)) = fins (sym v) (inr (other_zero (m * up e) (n * up d) e d v z))

-- a / c = b / d and b / d = f / g
cross_trans : (a b f : ℕ) (c d g : ℤ) → a * down d ≡ b * down c → b * down g ≡ f * down d → a * down g ≡ f * down c
cross_trans a b f c d g p q =
    eq_of_mul-eq-mul_right (down d) (down_pos d) (a * down g) (f * down c)
    (mul_right_comm a (down g) (down d) ∙ ap (λ (n : ℕ). n * down g) p
    ∙ mul_right_comm b (down c) (down g) ∙ ap (λ (n : ℕ). n * down c) q ∙ mul_right_comm f (down d) (down c))

same_sign : {s t u : Bool} (a b : ℕ) (c d : ℤ) → a * down d ≡ b * down c → (s ≡ t) ⊎ (a ≡ 0) → (t ≡ u) ⊎ (b ≡ 0) → (s ≡ u) ⊎ (a ≡ 0)
same_sign a b c d v (inl p) (inl q) = inl (p ∙ q)
same_sign a b c d v (inl p) (inr z) = inr (other_zero b a d c (sym v) z)
same_sign a b c d v (inr z) h = inr z

alike_trans : {x y z : Float} → Alike x y → Alike y z → Alike x z
alike_trans nans nans = nans
alike_trans infs infs = infs
alike_trans (fins {s} {m} {e} {t} {n} {d} v g) (fins {t = u} {n = k} {d = c} w h) =
    fins (cross_trans (m * up e) (n * up d) (k * up c) e d c v w) (same_sign (m * up e) (n * up d) e d v g h)

pub equal_refl : (x : Float) → T (equal_doubles x x)
equal_refl x = equal_of (alike_refl x)

pub equal_sym : (x y : Float) → T (equal_doubles x y) → T (equal_doubles y x)
equal_sym x y h = equal_of (alike_sym (alike x y h))

pub equal_trans : (x y z : Float) → T (equal_doubles x y) → T (equal_doubles y z) → T (equal_doubles x z)
equal_trans x y z g h = equal_of (alike_trans (alike x y g) (alike y z h))
