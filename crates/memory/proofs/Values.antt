-- Lists of the first n values of a function: their length, each value, one more, the same values, and the first that passes a test. Assumes nothing.
use mathlib.Core.Path.{◌≡◌, refl, ap, ◌∙◌}
use mathlib.Core.List.{List, [], ◌∷◌, ◌++◌}
use mathlib.Core.Bool.{Bool, true, false, cond}
use Prim.Native.Nat.{ℕ, zero, suc, ◌+◌, ◌<◌}
use native.Mathlib.Numerals.{add-one}
use native.Mathlib.Omega.{arith}
use lib.ListN.{length, get_or}
use Rattle.memory.specs.Keys.{up_to}

pub length_up_to : {A : Type 0} (n : ℕ) (f : ℕ → A) → length (up_to n f) ≡ n
unfolding up_to
length_up_to zero f = refl
length_up_to (suc n) f = ap suc (length_up_to n (λ j. f (suc j)))

pub at_up_to : {A : Type 0} (n : ℕ) (f : ℕ → A) (d : A) (k : ℕ) → k < n → get_or (up_to n f) k d ≡ f k
unfolding up_to
at_up_to zero f d k h = absurd (omega arith)
at_up_to (suc n) f d zero h = refl
at_up_to (suc n) f d (suc k) h = at_up_to n (λ j. f (suc j)) d k (omega arith)

pub up_to_snoc : {A : Type 0} (n : ℕ) (f : ℕ → A) → up_to (suc n) f ≡ up_to n f ++ (f n ∷ [])
unfolding up_to
up_to_snoc zero f = refl
up_to_snoc (suc n) f = ap (λ l. f zero ∷ l) (up_to_snoc n (λ j. f (suc j)))

pub up_to_more : {A : Type 0} (n : ℕ) (f : ℕ → A) → up_to (n + 1) f ≡ up_to n f ++ (f n ∷ [])
up_to_more n f = rw (add-one n) (up_to_snoc n f)

pub up_to_alike : {A : Type 0} (n : ℕ) (f g : ℕ → A) → ((k : ℕ) → k < n → f k ≡ g k) → up_to n f ≡ up_to n g
unfolding up_to
up_to_alike zero f g h = refl
up_to_alike (suc n) f g h = rw (h zero (omega arith), up_to_alike n (λ j. f (suc j)) (λ j. g (suc j)) λ k l. h (suc k) (omega arith))

-- one more, where those before are the same
pub up_to_grown : {A : Type 0} (n : ℕ) (f g : ℕ → A) (x : A) → ((k : ℕ) → k < n → f k ≡ g k) → f n ≡ x → up_to (n + 1) f ≡ up_to n g ++ (x ∷ [])
up_to_grown n f g x h e = up_to_more n f ∙ rw (up_to_alike n f g h, e)

-- ---- the first that passes

unfoldable pub first : {A B : Type 0} → (A → Bool) → (A → B) → B → List A → B
first test value missing [] = missing
first test value missing (x ∷ xs) = cond (test x) (value x) (first test value missing xs)

module _ {A B : Type 0} (test : A → Bool) (value : A → B) (missing : B) where
  pub first_found : (n : ℕ) (f : ℕ → A) (r : ℕ) → r < n → test (f r) ≡ true → ((j : ℕ) → j < r → test (f j) ≡ false)
      → value (f r) ≡ first test value missing (up_to n f)
  unfolding first up_to
  first_found zero f r l h b = absurd (omega arith)
  first_found (suc n) f zero l h b = rw h
  first_found (suc n) f (suc r) l h b = rw (b zero (omega arith)) (first_found n (λ j. f (suc j)) r (omega arith) h λ j m. b (suc j) (omega arith))

  pub first_missing_lem : (n : ℕ) (f : ℕ → A) → ((j : ℕ) → j < n → test (f j) ≡ false) → missing ≡ first test value missing (up_to n f)
  unfolding first up_to
  first_missing_lem zero f b = refl
  first_missing_lem (suc n) f b = rw (b zero (omega arith)) (first_missing_lem n (λ j. f (suc j)) λ j m. b (suc j) (omega arith))
