-- Halving among ascending keys: what each turn needs. Assumes nothing.
use mathlib.Core.Path.{◌≡◌, sym, ap}
use mathlib.Core.List.{List}
use Rattle.std.specs.Prelude.{None}
use Prim.Native.Nat.{ℕ, ◌+◌, ◌*◌, ◌≤◌, ◌<◌}
use native.Mathlib.Nat.{mul-le-mul_right}
use native.Mathlib.Omega.{arith}
use native.Mathlib.Decide.{dec_lt, ℕ_discrete}
use lib.ListN.{get_or}
use borrow.Author.Tests.{eq-eqb, ne_eqb}
use Rattle.memory.specs.Keys.{key_at, Ascends, First, FirstOf, holds}
use Rattle.memory.proofs.Ascending.{rises}

-- what stands there is above the key if it is neither it nor below it
pub below_key : {stands there key : ℕ} → stands ≡ there → (stands ≡ key → ⊥) → key ≤ stands → key < there
below_key {stands} {there} {key} e n l = elim (ℕ_discrete stands key) [ yes q ↦ absurd (n q) | no q ↦ omega (arith, q, e, l) ]

-- the place of a key is small
pub place_small : (step middle : ℕ) → step ≤ 7 → middle < 1024 → step * middle ≤ 7168
place_small step middle s m = omega (arith, mul-le-mul_right {m = step} {n = 7} middle s)

pub first_key : (t : List ℕ) (from step : ℕ) → key_at t from step 0 ≡ get_or t from 0
first_key t from step = let e : step * 0 + from ≡ from = omega arith in ap (λ i. get_or t i 0) e

-- a key below the first is none of them
pub below_first : (keys : ℕ → ℕ) (count key : ℕ) → key < keys 0 → Ascends keys count → FirstOf (holds keys key) count None
below_first keys count key l a = λ j m. ne_eqb key (keys j) λ q. elim (dec_lt 0 j) [
  | yes b ↦ omega (arith, rises keys count a 0 j b m)
  | no b ↦ let e : j ≡ 0 = omega arith in omega (arith, l, rw e at q)
]

-- before `low` the keys are below the one that is sought, from `high` on above it
pub record Split (keys : ℕ → ℕ) (count key low high : ℕ) : Type 0 where
  pub below : (j : ℕ) → j < low → keys j < key
  pub over : (j : ℕ) → high ≤ j → j < count → key < keys j

pub record Halving (keys : ℕ → ℕ) (count key low high : ℕ) : Type 0 where
  pub few : count ≤ 1024
  pub order : low ≤ high
  pub inside : high ≤ count
  pub split : Ascends keys count → Split keys count key low high

pub halving_begins : (keys : ℕ → ℕ) (count key : ℕ) → count ≤ 1024 → Halving keys count key 0 count
halving_begins keys count key h = record {
  few = h;
  order = omega arith;
  inside = omega arith;
  split = λ a. record { below = λ j l. absurd (omega arith); over = λ j l m. absurd (omega arith) };
}

module _ {keys : ℕ → ℕ} {count key low high : ℕ} (h : Halving keys count key low high) where
  -- the key stands in the middle
  pub halving_hits : (middle : ℕ) → middle < high → keys middle ≡ key → Ascends keys count → First (holds keys key) count middle
  halving_hits middle l e a = record {
    within = omega (arith, h.inside);
    hit = λ _. eq-eqb key (keys middle) (sym e);
    before = λ j m. ne_eqb key (keys j) λ q. omega (arith, rises keys count a j middle m (omega (arith, h.inside)));
  }

  pub halving_lifts : (middle : ℕ) → middle < high → keys middle < key → Halving keys count key (middle + 1) high
  halving_lifts middle l e = record {
    few = h.few;
    order = omega arith;
    inside = h.inside;
    split = λ a. record {
      below = λ j m. elim (dec_lt j middle) [
        | yes b ↦ omega (arith, rises keys count a j middle b (omega (arith, h.inside)))
        | no b ↦ let q : j ≡ middle = omega arith in rw q e
      ];
      over = (h.split a).over;
    };
  }

  pub halving_lowers : (middle : ℕ) → low ≤ middle → middle < high → key < keys middle → Halving keys count key low middle
  halving_lowers middle g l e = record {
    few = h.few;
    order = g;
    inside = omega (arith, h.inside);
    split = λ a. record {
      below = (h.split a).below;
      over = λ j m b. elim (dec_lt middle j) [
        | yes d ↦ omega (arith, rises keys count a middle j d b)
        | no d ↦ let q : j ≡ middle = omega arith in rw q e
      ];
    };
  }

  pub halving_ends : high ≤ low → Ascends keys count → FirstOf (holds keys key) count None
  halving_ends g a = λ j m. ne_eqb key (keys j) λ q. elim (dec_lt j low) [
    | yes d ↦ omega (arith, (h.split a).below j d)
    | no d ↦ omega (arith, (h.split a).over j (omega arith) m)
  ]
