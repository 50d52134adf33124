-- The first that passes a test is one: so two answers that the contract of a search allows are equal, where it asks for the first. Assumes nothing.
use mathlib.Core.Path.{◌≡◌, refl, sym, ap, ◌∙◌, subst}
use mathlib.Core.Bool.{Bool}
use Prim.Native.Nat.{ℕ, ◌<◌}
use native.Mathlib.Omega.{arith}
use native.Mathlib.Decide.{dec_lt}
use lib.Dec.{T}
use Rattle.std.specs.Prelude.{Option, Some, None}
use Rattle.memory.specs.Keys.{First, FirstOf}

-- one before another has passed a test that it had to fail
not_before : {test : ℕ → Bool} {count r r' : ℕ} → First test count r → First test count r' → r < r' → ⊥
not_before {r = r} p q h = subst T (sym (p.hit (omega (arith, h, q.within))) ∙ q.before r h) tt

pub one_first : {test : ℕ → Bool} {count r r' : ℕ} → First test count r → First test count r' → r ≡ r'
one_first {r = r} {r' = r'} p q = elim (dec_lt r r') [
  | yes before ↦ absurd (not_before p q before)
  | no ge ↦ elim (dec_lt r' r) [ yes after ↦ absurd (not_before q p after) | no le ↦ omega arith ]
]

-- one that passes is among none that does
not_among_none : {A : Type 0} {test : ℕ → Bool} {count j : ℕ} → FirstOf test count (Some j) → FirstOf test count None → A
not_among_none {j = j} p q = absurd (subst T (sym (p.1.hit p.0) ∙ q j p.0) tt)

pub one_first_of : (test : ℕ → Bool) (count : ℕ) (r r' : Option ℕ) → FirstOf test count r → FirstOf test count r' → r ≡ r'
one_first_of test count (Some j) (Some k) p q = ap Some (one_first p.1 q.1)
one_first_of test count (Some j) None p q = not_among_none p q
one_first_of test count None (Some k) p q = not_among_none q p
one_first_of test count None None p q = refl
