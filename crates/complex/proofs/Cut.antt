-- Why squares cut off at T's last place decide the zero test. All are whole multiples of the least subnormal: T is n times its last place U,
-- and A and B are the two parts. U, n and h are variables here, so no power of two is ever computed. Assumes nothing.
use Rattle.std.proofs.Common.{◌≡◌, ℕ, ◌+◌, ◌*◌, ◌/◌, ◌<◌, ◌≤◌, ltb, ◌⊎◌, sym, ap, ◌∙◌, subst, inl, inr, zero-le, lt_of_le_of_lt, le_of_lt, div-lt_iff_lt-mul, add_comm, lt_of_mul-lt-mul_right, mul-le-mul_left, mul-lt-mul_of_pos_right, mul-pos, div-mul-le_self, mul-div_cancel, arith, lt-ltb}
use native.Mathlib.Nat.{mul-add-div_right}
use lib.Ieee.Nearest.{div_same}
use Rattle.complex.proofs.Tests.{same_test}

pub square_lt : (a b : ℕ) → a < b → a * a < b * b
square_lt a b h = lt_of_le_of_lt (mul-le-mul_left a (le_of_lt h)) (mul-lt-mul_of_pos_right h (lt_of_le_of_lt zero-le h))

squares : (a b : ℕ) → a * b * (a * b) ≡ a * a * (b * b)
squares a b = omega arith

-- what lies below one whole does not matter to a whole bound
cut_test : (x y z d : ℕ) → 0 < d → ltb (x * d + y) (z * d) ≡ ltb (x + y / d) z
cut_test x y z d p =
    same_test (x * d + y) (z * d) (x + y / d) z
    (λ h. subst (λ (n : ℕ). n < z) (mul-add-div_right p x y) ((div-lt_iff_lt-mul p).1 h))
    (λ h. (div-lt_iff_lt-mul p).0 (subst (λ (n : ℕ). n < z) (sym (mul-add-div_right p x y)) h))

-- two numbers cut off sum to less than a bound that their whole sum is below
cut_below : (x y z d : ℕ) → 0 < d → x + y < z * d → x / d + y / d < z
cut_below x y z d p h =
    let s : (x / d + y / d) * d < z * d = omega (arith, div-mul-le_self x d, div-mul-le_self y d) in
    lt_of_mul-lt-mul_right d s

-- a part either is a whole number of T's last places, or is below h, whose square is at most half of T's
abbrev pub Placed : ℕ → ℕ → ℕ → Type 0
Placed U h A = ((a : ℕ) × (A ≡ a * U)) ⊎ (A < h)

abbrev cut_square_lem : ℕ → ℕ → ℕ
cut_square_lem U A = A * A / (U * U)

module _ (U n h : ℕ) (p : 0 < U) (half : 2 * (h * h) ≤ n * U * (n * U)) where
  whole : (A B a : ℕ) → A ≡ a * U → ltb (A * A + B * B) (n * U * (n * U)) ≡ ltb (cut_square_lem U A + cut_square_lem U B) (n * n)
  whole A B a e =
      let s : A * A ≡ a * a * (U * U) = (λ i. e i * e i) ∙ squares a U in
      let c : A * A / (U * U) ≡ a * a = ap (λ (x : ℕ). x / (U * U)) s ∙ mul-div_cancel (a * a) (mul-pos p p) in
      (λ i. ltb (s i + B * B) (squares n U i)) ∙ cut_test (a * a) (B * B) (n * n) (U * U) (mul-pos p p) ∙ ap (λ (x : ℕ). ltb (x + B * B / (U * U)) (n * n)) (sym c)

  small : (A B : ℕ) → A < h → B < h → ltb (A * A + B * B) (n * U * (n * U)) ≡ ltb (cut_square_lem U A + cut_square_lem U B) (n * n)
  small A B a b =
      let s : A * A + B * B < n * U * (n * U) = omega (arith, square_lt A h a, square_lt B h b) in
      let t : A * A + B * B < n * n * (U * U) = subst (λ (x : ℕ). A * A + B * B < x) (squares n U) s in
      lt-ltb (A * A + B * B) (n * U * (n * U)) s
      ∙ sym (lt-ltb (cut_square_lem U A + cut_square_lem U B) (n * n) (cut_below (A * A) (B * B) (n * n) (U * U) (mul-pos p p) t))

  -- the law: both squares may be cut off at T's last place
  pub cut : (A B : ℕ) → Placed U h A → Placed U h B → ltb (A * A + B * B) (n * U * (n * U)) ≡ ltb (cut_square_lem U A + cut_square_lem U B) (n * n)
  cut A B (inl a) b = whole A B a.0 a.1
  cut A B (inr a) (inl b) =
      ap (λ (x : ℕ). ltb x (n * U * (n * U))) (add_comm (A * A) (B * B))
      ∙ whole B A b.0 b.1
      ∙ ap (λ (x : ℕ). ltb x (n * n)) (add_comm (cut_square_lem U B) (cut_square_lem U A))
  cut A B (inr a) (inr b) = small A B a b

-- a number that is a significand s, K below U, has its square cut off with s's
pub cut_significand : (A K s U : ℕ) → 0 < K → 0 < U → A * K ≡ s * U → A * A / (U * U) ≡ s * s / (K * K)
cut_significand A K s U p q e = div_same (A * A) (U * U) (s * s) (K * K) (mul-pos q q) (mul-pos p p) (sym (squares A K) ∙ (λ i. e i * e i) ∙ squares s U)
