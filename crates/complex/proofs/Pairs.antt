-- Identical and equal complex numbers: two equivalences, the first within the second; and which results are pairs of doubles.
-- Assumes nothing.
use Rattle.std.proofs.Common.{◌≡◌, ℕ, Bool, ◌&&◌, T, eqb, sym, ◌∙◌, eqb→eq}
use lib.Dec.{eqb_refl}
use lib.Ieee.{Float, binary64}
use lib.Ieee.Bits.{of_bits-fits}
use lib.Ieee.Fits.{and_i, and_l, and_r, eq→eqb, add-fits, sub-fits, div-fits, neg-fits}
use Rattle.complex.specs.declared.Complex.{Complex}
use Rattle.complex.specs.Arithmetic.{◌⊕◌, ◌⊖◌, ◌⊗◌, plus, minus, times, over, negated}
use Rattle.complex.specs.Bits.{bits_of, Canonical, Fitting}
use Rattle.complex.specs.Constants.{of_parts}
use Rattle.complex.specs.Equality.{identical_doubles, equal_doubles, identical, equal}
use Rattle.complex.specs.Classes.{class_of}
use Rattle.complex.proofs.Alike as Alike
use Rattle.complex.proofs.Doubles.{bits_back, same_bits}
use Rattle.complex.proofs.Classes.{equal_is_same_class, identical_equal}

-- ---- a relation of parts, taken part by part

abbrev parts : (Float → Float → Bool) → Complex → Complex → Bool
parts r x y = r x.re y.re && r x.im y.im

parts_refl : (r : Float → Float → Bool) → ((x : Float) → T (r x x)) → (z : Complex) → T (parts r z z)
parts_refl r f z = and_i (r z.re z.re) (r z.im z.im) (f z.re) (f z.im)

parts_sym : (r : Float → Float → Bool) → ((x y : Float) → T (r x y) → T (r y x)) → (x y : Complex) → T (parts r x y) → T (parts r y x)
parts_sym r f x y h =
    and_i (r y.re x.re) (r y.im x.im)
    (f x.re y.re (and_l (r x.re y.re) (r x.im y.im) h))
    (f x.im y.im (and_r (r x.re y.re) (r x.im y.im) h))

parts_trans : (r : Float → Float → Bool) → ((x y z : Float) → T (r x y) → T (r y z) → T (r x z)) → (x y z : Complex) → T (parts r x y) → T (parts r y z) → T (parts r x z)
parts_trans r f x y z g h =
    and_i (r x.re z.re) (r x.im z.im)
    (f x.re y.re z.re (and_l (r x.re y.re) (r x.im y.im) g) (and_l (r y.re z.re) (r y.im z.im) h))
    (f x.im y.im z.im (and_r (r x.re y.re) (r x.im y.im) g) (and_r (r y.re z.re) (r y.im z.im) h))

-- ---- identical

identical_doubles_refl : (x : Float) → T (identical_doubles x x)
unfolding identical_doubles
identical_doubles_refl x = eqb_refl (bits_of x)

identical_doubles_sym : (x y : Float) → T (identical_doubles x y) → T (identical_doubles y x)
unfolding identical_doubles
identical_doubles_sym x y h = eq→eqb (sym (eqb→eq (bits_of x) (bits_of y) h))

identical_doubles_trans : (x y z : Float) → T (identical_doubles x y) → T (identical_doubles y z) → T (identical_doubles x z)
unfolding identical_doubles
identical_doubles_trans x y z g h = eq→eqb (eqb→eq (bits_of x) (bits_of y) g ∙ eqb→eq (bits_of y) (bits_of z) h)

pub identical_refl : (x : Complex) → T (identical x x)
unfolding identical
identical_refl = parts_refl identical_doubles identical_doubles_refl

pub identical_sym : (x y : Complex) → T (identical x y) → T (identical y x)
unfolding identical
identical_sym = parts_sym identical_doubles identical_doubles_sym

pub identical_trans : (x y z : Complex) → T (identical x y) → T (identical y z) → T (identical x z)
unfolding identical
identical_trans = parts_trans identical_doubles identical_doubles_trans

-- identical pairs of doubles are one
pub identical_same : (x y : Complex) → Fitting x → Fitting y → T (identical x y) → x ≡ y
unfolding identical identical_doubles
identical_same x y p q h =
    let i = identical_doubles x.re y.re in
    let j = identical_doubles x.im y.im in
    let a = same_bits x.re y.re p.re q.re (eqb→eq (bits_of x.re) (bits_of y.re) (and_l i j h)) in
    let b = same_bits x.im y.im p.im q.im (eqb→eq (bits_of x.im) (bits_of y.im) (and_r i j h)) in
    λ k. record { re = a k; im = b k }

-- ---- equal

pub equal_refl : (x : Complex) → T (equal x x)
unfolding equal
equal_refl = parts_refl equal_doubles Alike.equal_refl

pub equal_sym : (x y : Complex) → T (equal x y) → T (equal y x)
unfolding equal
equal_sym = parts_sym equal_doubles Alike.equal_sym

pub equal_trans : (x y z : Complex) → T (equal x y) → T (equal y z) → T (equal x z)
unfolding equal
equal_trans = parts_trans equal_doubles Alike.equal_trans

module _ (x y : Complex) (p : Fitting x) (q : Fitting y) where
  pub identical_is_equal : T (identical x y) → T (equal x y)
  unfolding identical equal
  identical_is_equal h =
      let i = identical_doubles x.re y.re in
      let j = identical_doubles x.im y.im in
      and_i (equal_doubles x.re y.re) (equal_doubles x.im y.im)
      (identical_equal x.re y.re p.re q.re (and_l i j h))
      (identical_equal x.im y.im p.im q.im (and_r i j h))

  -- equal exactly where both class numbers are the same
  pub equal_by_classes : equal x y ≡ (eqb (class_of x.re) (class_of y.re) && eqb (class_of x.im) (class_of y.im))
  unfolding equal
  equal_by_classes = λ i. equal_is_same_class x.re y.re p.re q.re i && equal_is_same_class x.im y.im p.im q.im i

-- ---- results are pairs of doubles

pub plus_fitting : (x y : Complex) → Fitting (plus x y)
unfolding plus
plus_fitting x y = record { re = add-fits binary64 x.re y.re; im = add-fits binary64 x.im y.im }

pub minus_fitting : (x y : Complex) → Fitting (minus x y)
unfolding minus
minus_fitting x y = record { re = sub-fits binary64 x.re y.re; im = sub-fits binary64 x.im y.im }

pub times_fitting : (x y : Complex) → Fitting (times x y)
unfolding times
times_fitting x y =
    record {
      re = sub-fits binary64 (x.re ⊗ y.re) (x.im ⊗ y.im);
      im = add-fits binary64 (x.re ⊗ y.im) (x.im ⊗ y.re);
    }

pub over_fitting : (x y : Complex) → Fitting (over x y)
unfolding over
over_fitting x y =
    let n = y.re ⊗ y.re ⊕ y.im ⊗ y.im in
    record {
      re = div-fits binary64 (x.re ⊗ y.re ⊕ x.im ⊗ y.im) n;
      im = div-fits binary64 (x.im ⊗ y.re ⊖ x.re ⊗ y.im) n;
    }

pub negated_fitting : (x : Complex) → Fitting x → Fitting (negated x)
unfolding negated
negated_fitting x f = record { re = neg-fits binary64 x.re f.re; im = neg-fits binary64 x.im f.im }

-- a number read from bits, and so every constant
pub of_parts_fitting : (a b : ℕ) → Fitting (of_parts a b)
of_parts_fitting a b = record { re = of_bits-fits binary64 a; im = of_bits-fits binary64 b }

-- and its parts have those bits
pub of_parts_bits : (a b : ℕ) → Canonical a → Canonical b → (bits_of (of_parts a b).re ≡ a) × (bits_of (of_parts a b).im ≡ b)
of_parts_bits a b p q = (bits_back a p, bits_back b q)
