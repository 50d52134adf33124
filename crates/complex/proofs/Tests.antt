-- Laws of tests that answer a Bool. Assumes nothing.
use Rattle.std.proofs.Common.{◌≡◌, ℕ, ◌<◌, Bool, true, false, ◌&&◌, T, ltb, sym, refl, ap, ◌∙◌, arith, le-ltb, lt-ltb}
use native.Mathlib.Decide.{dec_lt}

-- two tests that imply each other are one test
pub one_truth : (a b : Bool) → (T a → T b) → (T b → T a) → a ≡ b
one_truth true true f g = refl
one_truth false false f g = refl
one_truth true false f g = absurd (f tt)
one_truth false true f g = absurd (g tt)

-- the same of two orders
pub same_test : (a b c d : ℕ) → (a < b → c < d) → (c < d → a < b) → ltb a b ≡ ltb c d
same_test a b c d f g = go (dec_lt a b) (dec_lt c d)
  where
    go : Dec (a < b) → Dec (c < d) → ltb a b ≡ ltb c d
    go (yes p) q = lt-ltb a b p ∙ sym (lt-ltb c d (f p))
    go (no n) (yes q) = absurd (n (g q))
    go (no n) (no m) = le-ltb a b (omega arith) ∙ sym (le-ltb c d (omega arith))

-- a test of two parts that stops at the first that fails is their conjunction
pub both_yes : {r q a b : Bool} → r ≡ true → r ≡ a → q ≡ b → q ≡ (a && b)
both_yes {b = b} t e f = f ∙ ap (λ (x : Bool). x && b) (sym t ∙ e)

pub first_no : {r a : Bool} (b : Bool) → r ≡ false → r ≡ a → false ≡ (a && b)
first_no b t e = ap (λ (x : Bool). x && b) (sym t ∙ e)

-- of three, the last decides where the first two hold
pub last_no : (f g l : Bool) → (T f → T g → l ≡ false) → false ≡ (f && g && l)
last_no false g l h = refl
last_no true false l h = refl
last_no true true l h = sym (h tt tt)

pub last_decides : (f g l : Bool) → T f → T g → l ≡ (f && g && l)
last_decides true true l p q = refl
last_decides true false l p q = absurd q
last_decides false g l p q = absurd p
