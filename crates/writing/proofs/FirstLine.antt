-- An origin is a line of the input that gives that very tree, and no earlier line does. Assumes nothing.
use mathlib.Core.Path.{◌≡◌, refl, sym, ◌∙◌, subst}
use mathlib.Core.List.{List}
use mathlib.Core.Logic.{⊎_elim}
use mathlib.Core.Bool.{Bool, true, false}
use Prim.Native.Nat.{ℕ, suc, ◌≤◌, ◌<◌}
use native.Mathlib.Nat.{eq-or-lt_of_le}
use native.Mathlib.Omega.{arith}
use lib.Dec.{T}
use lib.Ieee.Bits.{is_true}
use lib.ListN.{length, get_or}
use Rattle.expression.specs.Trees.{Tree, leaf, pi}
use Rattle.expression.specs.Alike.{identical}
use Rattle.expression.specs.Limits.{Proper}
use Rattle.expression.proofs.Likeness.{identical_same}
use Rattle.store.specs.Storing.{place}
use Rattle.store.specs.Origins.{origin_of}
use Rattle.store.proofs.Places.{place_within, place_hit, place_first}
use Rattle.store.proofs.Tracing.{origin_some, origin_none}

untrue : (b : Bool) → (T b → ⊥) → b ≡ false
untrue true h = absurd (h tt)
untrue false h = refl

module _ (given : List Tree) (t : Tree) where
  -- the first of the lines whose tree it is
  pub record First (i : ℕ) : Type 0 where
    pub inside : i < length given
    pub gives : identical t (get_or given i (leaf pi)) ≡ true
    pub earlier : (j : ℕ) → j < i → identical t (get_or given j (leaf pi)) ≡ false

  first : place (identical t) given < length given → First (place (identical t) given)
  first h = record {
    inside = h;
    gives = is_true _ (place_hit (identical t) given h);
    earlier = λ j l. untrue _ λ e. omega (arith, l, place_first (identical t) given j (omega (arith, l, h)) e);
  }

  pub origin_first : (i : ℕ) → origin_of given t ≡ suc i → First i
  origin_first i e =
      ⊎_elim (λ z. absurd (omega (arith, sym e ∙ origin_none given t z)))
      (λ h. subst First (let z : suc (place (identical t) given) ≡ suc i = sym (origin_some given t h) ∙ e in omega (arith, z)) (first h))
      (eq-or-lt_of_le (place_within (identical t) given))

  -- and none says that no line's is
  pub origin_no_line : origin_of given t ≡ 0 → (j : ℕ) → j < length given → identical t (get_or given j (leaf pi)) ≡ false
  origin_no_line e j l =
      ⊎_elim (λ z. untrue _ λ i. omega (arith, z, l, place_first (identical t) given j l i))
      (λ h. absurd (omega (arith, sym e ∙ origin_some given t h)))
      (eq-or-lt_of_le (place_within (identical t) given))

  pub no_line_origin : ((j : ℕ) → j < length given → identical t (get_or given j (leaf pi)) ≡ false) → origin_of given t ≡ 0
  no_line_origin f =
      ⊎_elim (λ z. origin_none given t z)
      (λ h. absurd (subst T (f (place (identical t) given) h) (place_hit (identical t) given h)))
      (eq-or-lt_of_le (place_within (identical t) given))

  pub origin_few : origin_of given t ≤ length given
  origin_few =
      ⊎_elim (λ z. omega (arith, origin_none given t z))
      (λ h. omega (arith, h, origin_some given t h))
      (eq-or-lt_of_le (place_within (identical t) given))

  -- of proper trees: that very tree
  pub origin_same : (i : ℕ) → origin_of given t ≡ suc i → Proper t → Proper (get_or given i (leaf pi)) → get_or given i (leaf pi) ≡ t
  origin_same i e p q = sym (identical_same t (get_or given i (leaf pi)) p q (subst T (sym (origin_first i e).gives) tt))
