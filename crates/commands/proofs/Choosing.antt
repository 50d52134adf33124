-- How tests pick the case of a definition. Assumes nothing.
use mathlib.Core.Path.{◌≡◌, sym, ap, subst, ◌∙◌}
use mathlib.Core.Bool.{Bool, true, false, cond}
use lib.Dec.{T}

-- no is not yes
pub never : {A : Type 0} → false ≡ true → A
never e = absurd (subst T (sym e) tt)

-- a test that the code has made, as the definition makes it
module _ {A : Type 0} {test t : Bool} (e : t ≡ test) where
  pub chosen : t ≡ true → (x y : A) → x ≡ cond test x y
  chosen o x y = ap (λ b. cond b x y) (sym o ∙ e)

  pub passed : t ≡ false → (x y : A) {z : A} → z ≡ y → z ≡ cond test x y
  passed o x y q = q ∙ ap (λ b. cond b x y) (sym o ∙ e)
