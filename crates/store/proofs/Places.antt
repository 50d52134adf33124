-- Where a list first has a tree that passes a test; and among how many the last number falls in a bucket. Assumes nothing.
use mathlib.Core.Path.{◌≡◌, refl, sym, ap, ◌∙◌, subst}
use mathlib.Core.List.{List, [], ◌∷◌, ◌++◌}
use mathlib.Core.Logic.{⊎_elim}
use mathlib.Core.Bool.{Bool, true, false, cond, ◌||◌}
use Prim.Native.Nat.{ℕ, zero, suc, ◌-◌, ◌≤◌, ◌<◌}
use native.Mathlib.Nat.{eq-or-lt_of_le}
use native.Mathlib.Omega.{arith}
use lib.Dec.{T, eqb, eqb→eq, eqb_refl}
use lib.ListN.{length, get_or}
use Rattle.expression.specs.Trees.{Tree, leaf, pi}
use Rattle.expression.specs.Alike.{identical}
use Rattle.store.specs.Storing.{among, place}
use Rattle.store.specs.Index.{latest}

-- ---- the first place

abbrev at : List Tree → ℕ → Tree
at ts k = get_or ts k (leaf pi)

module _ (test : Tree → Bool) where
  pub place_within : (ts : List Tree) → place test ts ≤ length ts
  unfolding place
  place_within [] = omega arith
  place_within (t ∷ ts) = go (test t) (place_within ts)
    where
      go : (b : Bool) → place test ts ≤ length ts → cond b 0 (suc (place test ts)) ≤ suc (length ts)
      go true h = omega arith
      go false h = omega arith

  -- what stands there passes
  pub place_hit : (ts : List Tree) → place test ts < length ts → T (test (at ts (place test ts)))
  unfolding place
  place_hit [] h = absurd (omega arith)
  place_hit (t ∷ ts) h = go (test t) refl h (place_hit ts)
    where
      go : (b : Bool) → test t ≡ b → cond b 0 (suc (place test ts)) < suc (length ts) → (place test ts < length ts → T (test (at ts (place test ts))))
          → T (test (at (t ∷ ts) (cond b 0 (suc (place test ts)))))
      go true e h f = rw e tt
      go false e h f = f (omega arith)

  -- nothing before it does
  pub place_first : (ts : List Tree) (k : ℕ) → k < length ts → T (test (at ts k)) → place test ts ≤ k
  unfolding place
  place_first [] k l h = absurd (omega arith)
  place_first (t ∷ ts) zero l h = go (test t) h
    where
      go : (b : Bool) → T b → cond b 0 (suc (place test ts)) ≤ 0
      go true h = omega arith
      go false h = absurd h
  place_first (t ∷ ts) (suc k) l h = go (test t) (place_first ts k (omega arith) h)
    where
      go : (b : Bool) → place test ts ≤ k → cond b 0 (suc (place test ts)) ≤ suc k
      go true h = omega arith
      go false h = omega arith

  -- one tree more changes nothing where there was a place
  pub place_old : (ts us : List Tree) → place test ts < length ts → place test (ts ++ us) ≡ place test ts
  unfolding place
  place_old [] us h = absurd (omega arith)
  place_old (t ∷ ts) us h = go (test t) h (place_old ts us)
    where
      go : (b : Bool) → cond b 0 (suc (place test ts)) < suc (length ts) → (place test ts < length ts → place test (ts ++ us) ≡ place test ts)
          → cond b 0 (suc (place test (ts ++ us))) ≡ cond b 0 (suc (place test ts))
      go true h f = refl
      go false h f = ap suc (f (omega arith))

  -- and where there was none it is the new tree's, if that passes
  pub place_new : (ts : List Tree) (t : Tree) → place test ts ≡ length ts → place test (ts ++ (t ∷ [])) ≡ cond (test t) (length ts) (suc (length ts))
  unfolding place
  place_new [] t h = refl
  place_new (s ∷ ts) t h = go (test s) (test t) h (place_new ts t)
    where
      go : (b c : Bool) → cond b 0 (suc (place test ts)) ≡ suc (length ts)
          → (place test ts ≡ length ts → place test (ts ++ (t ∷ [])) ≡ cond c (length ts) (suc (length ts)))
          → cond b 0 (suc (place test (ts ++ (t ∷ [])))) ≡ cond c (suc (length ts)) (suc (suc (length ts)))
      go true c h f = absurd (omega arith)
      go false true h f = ap suc (f (omega arith))
      go false false h f = ap suc (f (omega arith))

-- tests that agree have one place
pub place_alike : (p q : Tree → Bool) → ((t : Tree) → p t ≡ q t) → (ts : List Tree) → place p ts ≡ place q ts
unfolding place
place_alike p q f [] = refl
place_alike p q f (t ∷ ts) = rw (f t, place_alike p q f ts) refl

-- the same places, by what passes there
pub place_at : (test : Tree → Bool) (ts : List Tree) (k : ℕ) → k < length ts → T (test (at ts k)) → ((j : ℕ) → j < k → T (test (at ts j)) → ⊥) → place test ts ≡ k
place_at test ts k l h f =
    let p = place_first test ts k l h in
    let g : ¬ (place test ts < k) = λ q. f (place test ts) q (place_hit test ts (omega arith)) in
    omega arith

pub place_none : (test : Tree → Bool) (ts : List Tree) → ((j : ℕ) → j < length ts → T (test (at ts j)) → ⊥) → place test ts ≡ length ts
place_none test ts f =
    let p = place_within test ts in
    let g : ¬ (place test ts < length ts) = λ q. f (place test ts) q (place_hit test ts q) in
    omega arith

-- a tree is among those stored where it has a place
pub among_yes : (ts : List Tree) (t : Tree) → place (identical t) ts < length ts → among ts t ≡ true
unfolding among place
among_yes [] t h = absurd (omega arith)
among_yes (s ∷ ts) t h = go (identical t s) h (among_yes ts t)
  where
    go : (b : Bool) → cond b 0 (suc (place (identical t) ts)) < suc (length ts) → (place (identical t) ts < length ts → among ts t ≡ true) → (b || among ts t) ≡ true
    go true h f = refl
    go false h f = f (omega arith)

pub among_no : (ts : List Tree) (t : Tree) → place (identical t) ts ≡ length ts → among ts t ≡ false
unfolding among place
among_no [] t h = refl
among_no (s ∷ ts) t h = go (identical t s) h (among_no ts t)
  where
    go : (b : Bool) → cond b 0 (suc (place (identical t) ts)) ≡ suc (length ts) → (place (identical t) ts ≡ length ts → among ts t ≡ false) → (b || among ts t) ≡ false
    go true h f = absurd (omega arith)
    go false h f = f (omega arith)

-- ---- the last in a bucket

module _ (f : ℕ → ℕ) (b : ℕ) where
  pub latest_within : (n : ℕ) → latest f b n ≤ n
  unfolding latest
  latest_within zero = omega arith
  latest_within (suc n) = go (eqb (f n) b) (latest_within n)
    where
      go : (c : Bool) → latest f b n ≤ n → cond c (suc n) (latest f b n) ≤ suc n
      go true h = omega arith
      go false h = omega arith

  pub latest_hit : (n : ℕ) → 1 ≤ latest f b n → f (latest f b n - 1) ≡ b
  unfolding latest
  latest_hit zero h = absurd (omega arith)
  latest_hit (suc n) h = go (eqb (f n) b) refl h (latest_hit n)
    where
      go : (c : Bool) → eqb (f n) b ≡ c → 1 ≤ cond c (suc n) (latest f b n) → (1 ≤ latest f b n → f (latest f b n - 1) ≡ b)
          → f (cond c (suc n) (latest f b n) - 1) ≡ b
      go true e h r = ap f (omega arith) ∙ eqb→eq (f n) b (rw e tt)
      go false e h r = r h

  pub latest_miss : (n j : ℕ) → latest f b n ≤ j → j < n → f j ≡ b → ⊥
  unfolding latest
  latest_miss zero j h l e = omega arith
  latest_miss (suc n) j h l e = go (eqb (f n) b) refl h (λ p q. latest_miss n j p q e)
    where
      go : (c : Bool) → eqb (f n) b ≡ c → cond c (suc n) (latest f b n) ≤ j → (latest f b n ≤ j → j < n → ⊥) → ⊥
      go true d h r = omega arith
      go false d h r =
          ⊎_elim
          (λ q. subst T d (subst (λ k. T (eqb (f k) b)) q (subst (λ x. T (eqb x b)) (sym e) (eqb_refl b))))
          (λ q. r h q)
          (eq-or-lt_of_le {n = j} {m = n} (omega arith))

pub latest_alike : (f g : ℕ → ℕ) (b n : ℕ) → ((k : ℕ) → k < n → f k ≡ g k) → latest f b n ≡ latest g b n
unfolding latest
latest_alike f g b zero h = refl
latest_alike f g b (suc n) h = rw (h n (omega arith), latest_alike f g b n λ k l. h k (omega arith)) refl
