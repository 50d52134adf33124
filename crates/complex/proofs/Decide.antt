-- The zero test of two doubles, by what the code tests: their bits against T's and half of T's, then the squares cut off at T's last
-- place. Assumes nothing.
use Rattle.std.proofs.Common.{◌≡◌, ℕ, ◌+◌, ◌-◌, ◌*◌, ◌/◌, ◌%◌, ◌^◌, ◌<◌, ◌≤◌, Bool, true, false, ◌&&◌, T, ltb, sym, refl, ap, ◌∙◌, subst, le_trans, le_of_eq, lt_of_lt_of_le, le-add_right, lt_of_le_of_lt, mul-le-mul, add_comm, div-le_self, arith, lit<, lit≤, pow_pos, le-ltb, lt-ltb}
use lib.Ieee.{Float, nan, inf, fin, binary64, to_bits, of_bits, fits}
use lib.Ieee.Scale.{finite}
use Rattle.complex.specs.declared.parts.Part.{Part}
use Rattle.complex.specs.Bits.{bits_of}
use Rattle.complex.specs.Zero.{magnitude, threshold, squares_below}
use Rattle.complex.specs.Parts.{magnitude_of_fields, magnitude_of_bits, Scaled, cut_square}
use Rattle.complex.proofs.Tests.{last_no, last_decides}
use Rattle.complex.proofs.Cut.{cut, cut_significand, square_lt}
use Rattle.complex.proofs.Magnitude.{magnitude_by_bits, rises, rises_le}
use Rattle.complex.proofs.Scaling.{in_places, placed_below}

-- ---- T, by its bits

abbrev pub t_bits : ℕ
t_bits = 0x3DDB_7CDF_D9D7_BDBB

abbrev pub half_bits : ℕ
half_bits = 0x3DCB_7CDF_D9D7_BDBB

abbrev pub significand : ℕ
significand = 0x1B_7CDF_D9D7_BDBB

t_magnitude : magnitude threshold ≡ significand * 2 ^ 988
unfolding magnitude of_bits
t_magnitude = refl

t_by_bits : magnitude threshold ≡ magnitude_of_bits t_bits
unfolding magnitude of_bits magnitude_of_bits magnitude_of_fields
t_by_bits = refl

t_by_half : magnitude threshold ≡ 2 * magnitude_of_bits half_bits
unfolding magnitude of_bits magnitude_of_bits magnitude_of_fields
t_by_half = refl

-- the square of T's significand
pub t_squared : 0x2F3_9421_9248_447B_2941_42B7_A699 ≡ significand * significand
t_squared = refl

-- ---- the squares cut off at T's last place

-- a cut square is far below 2 ^ 127
pub cut_fits : (A : ℕ) (p : Part) → Scaled A p → cut_square p < 2 ^ 127
cut_fits A p a =
    let n = p.significand in
    lt_of_le_of_lt (div-le_self (n * n) (2 ^ (1041 - p.scale) * 2 ^ (1041 - p.scale))) (lt_of_lt_of_le (square_lt n (2 ^ 53) a.small) (lit≤ tt))

-- over T as a variable: its powers of two are computed once, here
at_t : (t : ℕ) → t ≡ significand * 2 ^ 988 → (A B : ℕ) (p q : Part) → Scaled A p → Scaled B q → A < t → B < t
    → ltb (A * A + B * B) (t * t) ≡ ltb (cut_square p + cut_square q) (significand * significand)
at_t t e A B p q a b ha hb =
    ap (λ (n : ℕ). ltb (A * A + B * B) (n * n)) e
    ∙ cut (2 ^ 988) significand (2 ^ 1040) (pow_pos 988) (lit≤ tt) A B (placed_below 988 significand t e (lit< tt) A p a ha) (placed_below 988 significand t e (lit< tt) B q b hb)
    ∙ (λ i. ltb (square A p a ha i + square B q b hb i) (significand * significand))
  where
    square : (C : ℕ) (r : Part) → Scaled C r → C < t → C * C / (2 ^ 988 * 2 ^ 988) ≡ cut_square r
    square C r c h =
        let k = 1041 - r.scale in
        cut_significand C (2 ^ k) r.significand (2 ^ 988) (pow_pos k) (pow_pos 988) (in_places 988 significand t e (lit< tt) C r c h)

pub by_cut_squares : (A B : ℕ) (p q : Part) → Scaled A p → Scaled B q → A < magnitude threshold → B < magnitude threshold
    → squares_below A B ≡ ltb (cut_square p + cut_square q) (significand * significand)
unfolding squares_below
by_cut_squares = at_t (magnitude threshold) t_magnitude

-- ---- by the bits alone

sum_from : (A B t : ℕ) → t ≤ A → t * t ≤ A * A + B * B
sum_from A B t h = le_trans (mul-le-mul h h) (le-add_right (A * A) (B * B))

too_big : (A B : ℕ) → magnitude threshold ≤ A → squares_below A B ≡ false
unfolding squares_below
too_big A B h = le-ltb (A * A + B * B) (magnitude threshold * magnitude threshold) (sum_from A B (magnitude threshold) h)

swapped : (A B : ℕ) → squares_below A B ≡ squares_below B A
unfolding squares_below
swapped A B = ap (λ (n : ℕ). ltb n (magnitude threshold * magnitude threshold)) (add_comm (A * A) (B * B))

halved : (A B h : ℕ) → A < h → B < h → A * A + B * B < 2 * h * (2 * h)
halved A B h a b = omega (arith, square_lt A h a, square_lt B h b)

small_enough : (A B : ℕ) → A < magnitude_of_bits half_bits → B < magnitude_of_bits half_bits → squares_below A B ≡ true
unfolding squares_below
small_enough A B a b =
    lt-ltb (A * A + B * B) (magnitude threshold * magnitude threshold)
    (subst (λ (t : ℕ). A * A + B * B < t * t) (sym t_by_half) (halved A B (magnitude_of_bits half_bits) a b))

-- ---- the test of two doubles

abbrev zero_test : Float → Float → Bool
zero_test x y = finite x && finite y && squares_below (magnitude x) (magnitude y)

-- below T's bits there is no infinity and no NaN
below_is_finite : (x : Float) → bits_of x % 2 ^ 63 < t_bits → T (finite x)
unfolding to_bits
below_is_finite nan h = absurd (omega arith)
below_is_finite (inf true) h = absurd (omega arith)
below_is_finite (inf false) h = absurd (omega arith)
below_is_finite (fin s m e) h = tt

from_t : (x : Float) → T (fits binary64 x) → t_bits ≤ bits_of x % 2 ^ 63 → T (finite x) → magnitude threshold ≤ magnitude x
from_t x f h g = le_trans (le_of_eq t_by_bits) (le_trans (rises_le t_bits (bits_of x % 2 ^ 63) h) (le_of_eq (sym (magnitude_by_bits x f g))))

below_t : (b : ℕ) → b < t_bits → magnitude_of_bits b < magnitude threshold
below_t b h = lt_of_lt_of_le (rises b t_bits h) (le_of_eq (sym t_by_bits))

below_half : (x : Float) → T (fits binary64 x) → bits_of x % 2 ^ 63 < half_bits → magnitude x < magnitude_of_bits half_bits
below_half x f h =
    lt_of_le_of_lt (le_of_eq (magnitude_by_bits x f (below_is_finite x (lt_of_lt_of_le h (lit≤ tt))))) (rises (bits_of x % 2 ^ 63) half_bits h)

-- two doubles and their bits without the sign
pub record Measured (x y : Float) (a b : ℕ) : Type 0 where
  pub fits_x : T (fits binary64 x)
  pub fits_y : T (fits binary64 y)
  pub bits_x : a ≡ bits_of x % 2 ^ 63
  pub bits_y : b ≡ bits_of y % 2 ^ 63

module _ {x y : Float} {a b : ℕ} (m : Measured x y a b) where
  pub first_from_t : t_bits ≤ a → false ≡ zero_test x y
  first_from_t h =
      let k = subst (λ (n : ℕ). t_bits ≤ n) m.bits_x h in
      last_no (finite x) (finite y) (squares_below (magnitude x) (magnitude y)) (λ t u. too_big (magnitude x) (magnitude y) (from_t x m.fits_x k t))

  pub second_from_t : t_bits ≤ b → false ≡ zero_test x y
  second_from_t h =
      let k = subst (λ (n : ℕ). t_bits ≤ n) m.bits_y h in
      last_no (finite x) (finite y) (squares_below (magnitude x) (magnitude y))
      (λ t u. swapped (magnitude x) (magnitude y) ∙ too_big (magnitude y) (magnitude x) (from_t y m.fits_y k u))

  pub both_below_half : a < half_bits → b < half_bits → true ≡ zero_test x y
  both_below_half h k =
      let hx = subst (λ (n : ℕ). n < half_bits) m.bits_x h in
      let hy = subst (λ (n : ℕ). n < half_bits) m.bits_y k in
      let fx = below_is_finite x (lt_of_lt_of_le hx (lit≤ tt)) in
      let fy = below_is_finite y (lt_of_lt_of_le hy (lit≤ tt)) in
      sym (small_enough (magnitude x) (magnitude y) (below_half x m.fits_x hx) (below_half y m.fits_y hy))
      ∙ last_decides (finite x) (finite y) (squares_below (magnitude x) (magnitude y)) fx fy

  -- what `squares_below` is handed and says, where both are below T
  pub by_squares : (r : Bool) → a < t_bits → b < t_bits
      → (magnitude_of_bits (a % 2 ^ 63) < magnitude threshold → magnitude_of_bits (b % 2 ^ 63) < magnitude threshold
      → r ≡ squares_below (magnitude_of_bits (a % 2 ^ 63)) (magnitude_of_bits (b % 2 ^ 63)))
      → r ≡ zero_test x y
  by_squares r h k e =
      let fx = below_is_finite x (subst (λ (n : ℕ). n < t_bits) m.bits_x h) in
      let fy = below_is_finite y (subst (λ (n : ℕ). n < t_bits) m.bits_y k) in
      let s : a % 2 ^ 63 ≡ a = omega arith in
      let t : b % 2 ^ 63 ≡ b = omega arith in
      let u : magnitude_of_bits (a % 2 ^ 63) ≡ magnitude x = ap magnitude_of_bits (s ∙ m.bits_x) ∙ sym (magnitude_by_bits x m.fits_x fx) in
      let v : magnitude_of_bits (b % 2 ^ 63) ≡ magnitude y = ap magnitude_of_bits (t ∙ m.bits_y) ∙ sym (magnitude_by_bits y m.fits_y fy) in
      e (below_t (a % 2 ^ 63) (omega arith)) (below_t (b % 2 ^ 63) (omega arith)) ∙ (λ i. squares_below (u i) (v i))
      ∙ last_decides (finite x) (finite y) (squares_below (magnitude x) (magnitude y)) fx fy
