-- Significands and scales: what leading zeros make of a magnitude, that a magnitude has one such form, and where it lies below T.
-- Assumes nothing.
use Rattle.std.proofs.Common.{◌≡◌, ℕ, zero, suc, ◌+◌, ◌-◌, ◌*◌, ◌/◌, ◌%◌, ◌^◌, ◌<◌, ◌≤◌, sym, refl, ap, ◌∙◌, subst, inl, inr, le_trans, lt_trans, le_of_eq, lt_of_lt_of_le, lt_of_le_of_lt, mul-le-mul_right, zero-lt-suc, mul_assoc, mul_comm, mul-le-mul, add_comm, lt_of_mul-lt-mul_right, mul-le-mul_left, mul-lt-mul_of_pos_right, pow-suc, lt_of_not-le, mul-one, mul_right_comm, not-le_of_lt, mul_left_comm, arith, pow_pos, pow_mono, pow-add, shl_lt, shl_exact}
use native.Mathlib.Nat.{eq_of_mul-eq-mul_right}
use native.Mathlib.Decide.{dec_lt}
use lib.Count.{count_leading_zeros, leading_of_zero, leading_top}
use Rattle.complex.specs.declared.parts.Part.{Part}
use Rattle.complex.specs.Parts.{magnitude_of_fields, magnitude_of_bits, Scaled}
use Rattle.complex.proofs.Cut.{Placed}

-- ---- the highest set bit at bit 52

pow_lt_cancel : {a b : ℕ} → 2 ^ a < 2 ^ b → a < b
pow_lt_cancel h = lt_of_not-le (λ g. not-le_of_lt h (pow_mono g))

abbrev part : ℕ → ℕ → Part
part s k = record { significand = s; scale = k }

-- what the code makes of digits below 2 ^ 53 and an exponent
abbrev pub placed : ℕ → ℕ → Part
placed m e = part (m * 2 ^ (count_leading_zeros 64 m - 11) % 2 ^ 64) (e + (64 - count_leading_zeros 64 m))

-- at least 11 of the 64 bits are leading zeros
pub eleven : (m : ℕ) → m < 2 ^ 53 → 11 ≤ count_leading_zeros 64 m
eleven zero h = subst (λ (z : ℕ). 11 ≤ z) (sym (leading_of_zero 64)) (omega arith)
eleven (suc m) h =
    let t = leading_top 64 (suc m) (zero-lt-suc m) (omega arith) in
    let j : t.0 < 53 = pow_lt_cancel (lt_of_le_of_lt t.2 h) in
    omega arith

value_of : (m e d l : ℕ) → d + l ≡ 53 → m * 2 ^ e * 2 ^ 53 ≡ m * 2 ^ d * 2 ^ (e + l)
value_of m e d l q = subst (λ (n : ℕ). m * 2 ^ e * 2 ^ n ≡ m * 2 ^ d * 2 ^ (e + l)) q (simp (pow-add, mul_assoc, mul_left_comm))

scaled_nonzero : (m e : ℕ) → 0 < m → m < 2 ^ 53 → Scaled (m * 2 ^ e) (placed m e)
scaled_nonzero m e p h = at (count_leading_zeros 64 m) (eleven m h) (leading_top 64 m p (omega arith))
  where
    at : (z : ℕ) → 11 ≤ z → (j : ℕ) × (z + suc j ≡ 64) × (2 ^ j ≤ m) × (m < 2 ^ suc j) → Scaled (m * 2 ^ e) (part (m * 2 ^ (z - 11) % 2 ^ 64) (e + (64 - z)))
    at z g t =
        let d = z - 11 in
        let l = 64 - z in
        let j = t.0 in
        let lj : suc j ≡ l = omega arith in
        let dl : d + l ≡ 53 = omega arith in
        let jd : j + d ≡ 52 = omega arith in
        let jm : 2 ^ (j + d) ≤ m * 2 ^ d = le_trans (le_of_eq (pow-add 2 j d)) (mul-le-mul_right (2 ^ d) t.2) in
        let ml : m < 2 ^ l = subst (λ (n : ℕ). m < 2 ^ n) lj t.3 in
        let exact : m * 2 ^ d % 2 ^ 64 ≡ m * 2 ^ d = shl_exact {a = m} l d 64 ml (omega arith) in
        record {
          value = value_of m e d l dl ∙ ap (λ (n : ℕ). n * 2 ^ (e + l)) (sym exact);
          small = subst (λ (n : ℕ). n < 2 ^ 53) (sym exact) (subst (λ (n : ℕ). m * 2 ^ d < 2 ^ n) (add_comm l d ∙ dl) (shl_lt {a = m} l d ml));
          top = λ _. subst (λ (n : ℕ). 2 ^ 52 ≤ n) (sym exact) (subst (λ (n : ℕ). 2 ^ n ≤ m * 2 ^ d) jd jm);
        }

scaled_zero : (e : ℕ) → e ≡ 0 → Scaled (zero * 2 ^ e) (placed zero e)
scaled_zero e z =
    subst (λ (k : ℕ). Scaled (zero * 2 ^ k) (placed zero k)) (sym z)
    (subst (λ (n : ℕ). Scaled 0 (part (zero * 2 ^ (n - 11) % 2 ^ 64) (0 + (64 - n)))) (sym (leading_of_zero 64))
    (record { value = refl; small = omega arith; top = λ h. absurd (omega arith) }))

scaled : (m e : ℕ) → m < 2 ^ 53 → (m ≡ 0 → e ≡ 0) → Scaled (m * 2 ^ e) (placed m e)
scaled zero e h z = scaled_zero e (z refl)
scaled (suc m) e h z = scaled_nonzero (suc m) e (zero-lt-suc m) h

-- ---- the fields of a double's bits

-- what the exponent leaves of the field is the leading digit that is not written
digits_of : (x t : ℕ) → magnitude_of_fields x t ≡ (x * 2 ^ 52 + t - (x - 1) * 2 ^ 52) * 2 ^ (x - 1)
unfolding magnitude_of_fields
digits_of zero t = let e : t ≡ (0 * 2 ^ 52 + t - 0 * 2 ^ 52) * 1 = omega arith in e
digits_of (suc x) t =
    let a : 2 ^ 52 + t ≡ suc x * 2 ^ 52 + t - (suc x - 1) * 2 ^ 52 = omega arith in
    let b : x ≡ suc x - 1 = omega arith in
    λ i. a i * 2 ^ b i

module _ (m e : ℕ) (exponent : e ≡ m / 2 ^ 52 - 1) where
  pub digits_lt : m - e * 2 ^ 52 < 2 ^ 53
  digits_lt = omega arith

  pub scaled_bits : Scaled (magnitude_of_bits m) (placed (m - e * 2 ^ 52) e)
  unfolding magnitude_of_bits
  scaled_bits =
      let p : m / 2 ^ 52 * 2 ^ 52 + m % 2 ^ 52 ≡ m = omega arith in
      let u : magnitude_of_fields (m / 2 ^ 52) (m % 2 ^ 52) ≡ (m - e * 2 ^ 52) * 2 ^ e =
      digits_of (m / 2 ^ 52) (m % 2 ^ 52) ∙ (λ i. (p i - sym exponent i * 2 ^ 52) * 2 ^ sym exponent i) in
      subst (λ (n : ℕ). Scaled n (placed (m - e * 2 ^ 52) e)) (sym u) (scaled (m - e * 2 ^ 52) e digits_lt (λ z. omega arith))

-- ---- a magnitude has one such form, so a contract that says `Scaled` determines the answer

no_smaller : (n : ℕ) (p q : Part) → Scaled n p → Scaled n q → p.scale < q.scale → ⊥
no_smaller n p q a b h =
    let d = q.scale - suc p.scale in
    let e : q.scale ≡ suc d + p.scale = omega arith in
    let c : p.significand * 2 ^ p.scale ≡ q.significand * 2 ^ suc d * 2 ^ p.scale =
    sym a.value ∙ b.value ∙ ap (λ (k : ℕ). q.significand * 2 ^ k) e
    ∙ ap (λ (x : ℕ). q.significand * x) (pow-add 2 (suc d) p.scale) ∙ sym (mul_assoc q.significand (2 ^ suc d) (2 ^ p.scale)) in
    let s : p.significand ≡ q.significand * 2 ^ suc d = eq_of_mul-eq-mul_right (2 ^ p.scale) (pow_pos p.scale) p.significand (q.significand * 2 ^ suc d) c in
    let t : 2 ^ 52 * 2 ≤ q.significand * 2 ^ suc d = mul-le-mul (b.top (omega arith)) (pow_mono {i = 1} {j = suc d} (omega arith)) in
    omega (arith, a.small)

pub scaled_unique : (n : ℕ) (p q : Part) → Scaled n p → Scaled n q → p ≡ q
scaled_unique n p q a b = go (dec_lt p.scale q.scale) (dec_lt q.scale p.scale)
  where
    go : Dec (p.scale < q.scale) → Dec (q.scale < p.scale) → p ≡ q
    go (yes h) y = absurd (no_smaller n p q a b h)
    go (no f) (yes h) = absurd (no_smaller n q p b a h)
    go (no f) (no g) =
        let e : p.scale ≡ q.scale = omega arith in
        let s : p.significand ≡ q.significand =
        eq_of_mul-eq-mul_right (2 ^ q.scale) (pow_pos q.scale) p.significand q.significand
        (ap (λ (k : ℕ). p.significand * 2 ^ k) (sym e) ∙ sym a.value ∙ b.value) in
        λ i. part (s i) (e i)

-- ---- where a magnitude A lies that is below T = n * 2 ^ u. T's scale is u + 53.

past_scale : (u : ℕ) → 2 ^ 52 * 2 ^ suc (u + 53) ≡ 2 ^ 53 * 2 ^ u * 2 ^ 53
past_scale u =
    let e : 2 ^ 52 * (2 ^ u * 2 ^ 53 * 2) ≡ 2 ^ 53 * 2 ^ u * 2 ^ 53 = omega arith in
    ap (λ (k : ℕ). 2 ^ 52 * k) (pow-suc 2 (u + 53) ∙ ap (λ (k : ℕ). k * 2) (pow-add 2 u 53)) ∙ e

module _ (u n T : ℕ) (t : T ≡ n * 2 ^ u) (small : n < 2 ^ 53) (A : ℕ) (p : Part) (a : Scaled A p) (below : A < T) where
  -- its scale is at most T's
  pub in_scale : p.scale ≤ u + 53
  in_scale = go (dec_lt (u + 53) p.scale)
    where
      go : Dec (u + 53 < p.scale) → p.scale ≤ u + 53
      go (no f) = omega arith
      go (yes h) =
          let x : 2 ^ 52 * 2 ^ suc (u + 53) ≤ A * 2 ^ 53 =
          le_trans (mul-le-mul (a.top (omega arith)) (pow_mono {i = suc (u + 53)} {j = p.scale} h)) (le_of_eq (sym a.value)) in
          let y : A * 2 ^ 53 < n * 2 ^ u * 2 ^ 53 = mul-lt-mul_of_pos_right (subst (λ (k : ℕ). A < k) t below) (pow_pos 53) in
          let z : n * 2 ^ u * 2 ^ 53 < 2 ^ 53 * 2 ^ u * 2 ^ 53 = mul-lt-mul_of_pos_right (mul-lt-mul_of_pos_right small (pow_pos u)) (pow_pos 53) in
          absurd (not-le_of_lt (lt_trans y z) (le_trans (le_of_eq (sym (past_scale u))) x))

  -- its significand counts in places of which 2 ^ (u + 53 - scale) make T's last one
  pub in_places : A * 2 ^ (u + 53 - p.scale) ≡ p.significand * 2 ^ u
  in_places =
      let k = u + 53 - p.scale in
      let e : p.scale + k ≡ u + 53 = let s = in_scale in omega arith in
      eq_of_mul-eq-mul_right (2 ^ 53) (pow_pos 53) (A * 2 ^ k) (p.significand * 2 ^ u)
      (mul_right_comm A (2 ^ k) (2 ^ 53) ∙ ap (λ (x : ℕ). x * 2 ^ k) a.value ∙ mul_assoc p.significand (2 ^ p.scale) (2 ^ k)
      ∙ ap (λ (x : ℕ). p.significand * x) (sym (pow-add 2 p.scale k) ∙ ap (λ (x : ℕ). 2 ^ x) e ∙ pow-add 2 u 53)
      ∙ sym (mul_assoc p.significand (2 ^ u) (2 ^ 53)))

  -- and it is a whole number of T's last places, or below 2 ^ (u + 52)
  pub placed_below : Placed (2 ^ u) (2 ^ (u + 52)) A
  placed_below = go (dec_lt p.scale (u + 53))
    where
      go : Dec (p.scale < u + 53) → Placed (2 ^ u) (2 ^ (u + 52)) A
      go (yes h) =
          let x : A * 2 ^ 53 < 2 ^ 53 * 2 ^ p.scale = lt_of_le_of_lt (le_of_eq a.value) (mul-lt-mul_of_pos_right a.small (pow_pos p.scale)) in
          let y : 2 ^ 53 * 2 ^ p.scale ≤ 2 ^ (u + 52) * 2 ^ 53 =
          le_trans (mul-le-mul_left (2 ^ 53) (pow_mono {i = p.scale} {j = u + 52} (omega arith))) (le_of_eq (mul_comm (2 ^ 53) (2 ^ (u + 52)))) in
          inr (lt_of_mul-lt-mul_right (2 ^ 53) (lt_of_lt_of_le x y))
      go (no f) =
          let e : 0 ≡ u + 53 - p.scale = omega arith in
          inl (p.significand, sym (mul-one A) ∙ ap (λ (k : ℕ). A * 2 ^ k) e ∙ in_places)
