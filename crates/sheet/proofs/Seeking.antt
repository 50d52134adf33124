-- The walk along a chain of rows: what it comes to, and what each turn needs. Assumes nothing.
use mathlib.Core.Path.{◌≡◌, refl, sym, ◌∙◌, subst}
use mathlib.Core.Bool.{Bool, true, false, ◌&&◌}
use Prim.Native.Nat.{ℕ, zero, suc, ◌+◌, ◌≤◌, ◌<◌, min}
use native.Mathlib.Omega.{arith}
use native.Mathlib.Decide.{dec_lt}
use lib.Dec.{T, eqb}
use borrow.Author.Tests.{ne_eqb}
use Rattle.std.specs.Prelude.{Some, None}
use Rattle.memory.specs.Keys.{First, FirstOf}
use Rattle.sheet.specs.Index.{Leads, hits, steps}

pub other : {a b c : ℕ} → (a ≡ b → ⊥) → a ≡ c → eqb b c ≡ false
other {a} {b} {c} n e = ne_eqb b c λ q. n (e ∙ sym q)

-- no test has both answers
pub both_ways : {A : Type 0} {b : Bool} → b ≡ true → b ≡ false → A
both_ways e f = absurd (subst T (sym e ∙ f) tt)

pub both : (a b : Bool) → a && b ≡ true → (a ≡ true) × (b ≡ true)
both true b e = (refl, e)
both false b e = both_ways e refl

-- ---- what a walk comes to

module _ {next : ℕ → ℕ} {test : ℕ → Bool} where
  pub leads_some : {at r : ℕ} → Leads next test at r → at ≡ 0 → ⊥
  leads_some (hits e t) z = omega arith
  leads_some (steps k e t l) z = omega arith

  leads_here : {at r : ℕ} (k : ℕ) → at ≡ k + 1 → test k ≡ true → Leads next test at r → r ≡ k
  leads_here k q t (hits e u) = omega arith
  leads_here k q t (steps j e u l) = let i : k ≡ j = omega arith in both_ways t (rw i u)

  leads_on : {at r : ℕ} (k : ℕ) → at ≡ k + 1 → test k ≡ false → Leads next test at r → Leads next test (min (next k) k) r
  leads_on k q t (hits {r = r} e u) = let i : r ≡ k = omega arith in both_ways u (rw i t)
  leads_on k q t (steps j e u l) = let i : k ≡ j = omega arith in rw i l

-- it stays where the rows that it passes are the same
pub leads_kept : {next next' : ℕ → ℕ} {test test' : ℕ → Bool} (n : ℕ) → ((j : ℕ) → j < n → next' j ≡ next j) → ((j : ℕ) → j < n → test' j ≡ test j)
    → {at r : ℕ} → at ≤ n → Leads next test at r → Leads next' test' at r
leads_kept n s u l (hits {r = r} e t) = hits e (u r (omega arith) ∙ t)
leads_kept n s u l (steps {r = r} k e t w) = steps {r = r} k e (u k (omega arith) ∙ t) (rw (s k (omega arith)) (leads_kept n s u (omega arith) w))

-- ---- whether any passes

data Sought (test : ℕ → Bool) (n : ℕ) : Type 0 where
  none : ((j : ℕ) → j < n → test j ≡ false) → Sought test n
  some : (r : ℕ) → r < n → First test n r → Sought test n

sought : (test : ℕ → Bool) (n : ℕ) → Sought test n
sought test zero = none λ j l. absurd (omega arith)
sought test (suc n) = more (sought test n) (test n) refl
  where
    more : Sought test n → (b : Bool) → test n ≡ b → Sought test (suc n)
    more (some r l f) b e = some r (omega arith) (record { within = omega arith; hit = λ _. f.hit l; before = f.before })
    more (none f) true e = some n (omega arith) (record { within = omega arith; hit = λ _. e; before = f })
    more (none f) false e = none λ j l. elim (dec_lt j n) [
      | yes b ↦ f j b
      | no b ↦ let i : j ≡ n = omega arith in rw i e
    ]

-- ---- each turn

-- from `at` on the walk comes to the first of n that passes, if one does
pub record Walking (next : ℕ → ℕ) (test : ℕ → Bool) (n at : ℕ) : Type 0 where
  pub leads : (r : ℕ) → First test n r → r < n → Leads next test at r

module _ {next : ℕ → ℕ} {test : ℕ → Bool} {n at : ℕ} (w : Walking next test n at) where
  pub walking_hits : (k : ℕ) → k < n → at ≡ k + 1 → test k ≡ true → FirstOf test n (Some k)
  walking_hits k l e t = (l, go (sought test n))
    where
      go : Sought test n → First test n k
      go (none f) = both_ways t (f k l)
      go (some r m f) = let i : k ≡ r = sym (leads_here k e t (w.leads r f m)) in rw i f

  pub walking_on : (k : ℕ) → at ≡ k + 1 → test k ≡ false → Walking next test n (min (next k) k)
  walking_on k e t = record { leads = λ r f m. leads_on k e t (w.leads r f m) }

  pub walking_ends : at ≡ 0 → FirstOf test n None
  walking_ends z = go (sought test n)
    where
      go : Sought test n → FirstOf test n None
      go (none f) = f
      go (some r m f) = absurd (leads_some (w.leads r f m) z)
