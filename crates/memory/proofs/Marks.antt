-- Marks of rows: in what order and how often rows are marked is all one, a row is marked if it is among those that are noted, and a mark stays. Assumes nothing.
use mathlib.Core.Path.{◌≡◌, refl, sym, ap, ◌∙◌}
use mathlib.Core.List.{List, [], ◌∷◌, ◌++◌}
use mathlib.Core.Bool.{Bool, true, false, cond, ◌||◌, or_assoc, or-true, true≢false}
use mathlib.Core.Logic.{◌⊎◌, inl, inr}
use Prim.Native.Nat.{ℕ, ◌≤◌, ◌<◌}
use native.Mathlib.Omega.{arith}
use native.Mathlib.Decide.{dec_lt, ℕ_discrete}
use lib.ListN.{length, get_or, set, length-set, length-replicate, get_or-replicate}
use lib.Dec.{eqb}
use lib.Seq.{set_comm, set-set, get_or-set_same, get_or-set_other}
use borrow.Author.Tests.{eq-eqb, ne_eqb}
use Rattle.memory.specs.Marks.{most_marks, no_marks, noted, marks_of}
use Rattle.memory.proofs.Slices.{get_or_out}

pub noted_append : (a b m : List ℕ) → noted (a ++ b) m ≡ noted b (noted a m)
unfolding noted
noted_append [] b m = refl
noted_append (j ∷ a) b m = noted_append a b (set m j 1)

pub noted_length : (a m : List ℕ) → length (noted a m) ≡ length m
unfolding noted
noted_length [] m = refl
noted_length (j ∷ a) m = noted_length a (set m j 1) ∙ length-set m j 1

-- ---- in what order, and how often

set_swap : (m : List ℕ) (i j : ℕ) → set (set m i 1) j 1 ≡ set (set m j 1) i 1
set_swap m i j = elim (ℕ_discrete i j) [ yes e ↦ rw e | no n ↦ set_comm m i j 1 1 n ]

pub noted_set : (a m : List ℕ) (j : ℕ) → noted a (set m j 1) ≡ set (noted a m) j 1
unfolding noted
noted_set [] m j = refl
noted_set (i ∷ a) m j = ap (noted a) (set_swap m j i) ∙ noted_set a (set m i 1) j

pub noted_swap : (a b m : List ℕ) → noted a (noted b m) ≡ noted b (noted a m)
unfolding noted
noted_swap [] b m = refl
noted_swap (i ∷ a) b m = ap (noted a) (sym (noted_set b m i)) ∙ noted_swap a b (set m i 1)

pub noted_again : (a m : List ℕ) → noted a (noted a m) ≡ noted a m
unfolding noted
noted_again [] m = refl
noted_again (i ∷ a) m = ap (noted a) (sym (noted_set a (set m i 1) i) ∙ ap (noted a) (set-set m i 1 1)) ∙ noted_again a (set m i 1)

-- what leaves the same marks does so after other rows too
pub noted_more : (a b c m : List ℕ) → noted a m ≡ noted b m → noted a (noted c m) ≡ noted b (noted c m)
noted_more a b c m e = noted_swap a c m ∙ ap (noted c) e ∙ noted_swap c b m

-- ---- what a mark says

cond_same : (b : Bool) → cond {A = ℕ} b 1 1 ≡ 1
cond_same true = refl
cond_same false = refl

unfoldable pub among : ℕ → List ℕ → Bool
among j [] = false
among j (i ∷ a) = eqb j i || among j a

pub among_append : (j : ℕ) (a b : List ℕ) → among j (a ++ b) ≡ (among j a || among j b)
unfolding among
among_append j [] b = refl
among_append j (i ∷ a) b = rw (among_append j a b) (sym (or_assoc (eqb j i) (among j a) (among j b)))

pub among_left : (j : ℕ) (a b : List ℕ) → among j a ≡ true → among j (a ++ b) ≡ true
among_left j a b e = rw (among_append j a b, e)

pub among_right : (j : ℕ) (a b : List ℕ) → among j b ≡ true → among j (a ++ b) ≡ true
among_right j a b e = rw (among_append j a b, e) (or-true (among j a))

pub among_either : (j : ℕ) (a b : List ℕ) → among j (a ++ b) ≡ true → (among j a ≡ true) ⊎ (among j b ≡ true)
among_either j a b e = go (among j a) refl (sym (among_append j a b) ∙ e)
  where
    go : (c : Bool) → among j a ≡ c → (c || among j b) ≡ true → (among j a ≡ true) ⊎ (among j b ≡ true)
    go true q e = inl q
    go false q e = inr e

pub among_neither : (j : ℕ) (a b : List ℕ) → among j (a ++ b) ≡ false → (among j a ≡ false) × (among j b ≡ false)
among_neither j a b e = go (among j a) refl (sym (among_append j a b) ∙ e)
  where
    go : (c : Bool) → among j a ≡ c → (c || among j b) ≡ false → (among j a ≡ false) × (among j b ≡ false)
    go true q e = absurd (true≢false e)
    go false q e = (q, e)

-- one row more, where `b` says whether any other is this one
set_mark : (b : Bool) (m : List ℕ) (i j : ℕ) → j < length m → cond b 1 (get_or (set m i 1) j 0) ≡ cond (eqb j i || b) 1 (get_or m j 0)
set_mark b m i j h = elim (ℕ_discrete j i) [
  | yes e ↦ rw (eq-eqb j i e, sym e, get_or-set_same m j 1 0 h) (cond_same b)
  | no n ↦ rw (ne_eqb j i n, get_or-set_other m i j 1 0 n)
]

pub mark_noted : (a m : List ℕ) (j : ℕ) → j < length m → get_or (noted a m) j 0 ≡ cond (among j a) 1 (get_or m j 0)
unfolding noted among
mark_noted [] m j h = refl
mark_noted (i ∷ a) m j h = mark_noted a (set m i 1) j (rw length-set h) ∙ set_mark (among j a) m i j h

pub mark_stays : (a m : List ℕ) (j : ℕ) → get_or m j 0 ≡ 1 → get_or (noted a m) j 0 ≡ 1
mark_stays a m j e = elim (dec_lt j (length m)) [
  | yes h ↦ rw (mark_noted a m j h, e) (cond_same (among j a))
  | no h ↦ absurd (omega (arith, e, get_or_out m j 0 (omega arith)))
]

-- a row that has no mark then is none of them, and had none
pub unmarked_before : (a m : List ℕ) (j : ℕ) → j < length m → get_or (noted a m) j 0 ≡ 0 → (among j a ≡ false) × (get_or m j 0 ≡ 0)
unmarked_before a m j h e = go (among j a) refl (sym (mark_noted a m j h) ∙ e)
  where
    go : (b : Bool) → among j a ≡ b → cond b 1 (get_or m j 0) ≡ 0 → (among j a ≡ false) × (get_or m j 0 ≡ 0)
    go true q e = absurd (omega arith)
    go false q e = (q, e)

-- ---- the marks that rows leave

pub length_marks : (a : List ℕ) → length (marks_of a) ≡ most_marks
unfolding no_marks
length_marks a = noted_length a no_marks ∙ length-replicate {A = ℕ} most_marks 0

pub mark_of : (a : List ℕ) (j : ℕ) → j < most_marks → get_or (marks_of a) j 0 ≡ cond (among j a) 1 0
unfolding no_marks
mark_of a j h =
    let z : get_or no_marks j 0 ≡ 0 = get_or-replicate most_marks j 0 0 h in
    mark_noted a no_marks j (rw (length-replicate {A = ℕ} most_marks 0) h) ∙ ap (λ x. cond (among j a) 1 x) z

pub unmarked : (a : List ℕ) (j : ℕ) → j < most_marks → get_or (marks_of a) j 0 ≡ 0 → among j a ≡ false
unfolding no_marks
unmarked a j h e = (unmarked_before a no_marks j (rw (length-replicate {A = ℕ} most_marks 0) h) e).0

pub marked : (a : List ℕ) (j : ℕ) → get_or (marks_of a) j 0 ≡ 1 → among j a ≡ true
marked a j e = elim (dec_lt j most_marks) [
  | yes h ↦ go (among j a) refl (sym (mark_of a j h) ∙ e)
  | no h ↦ let z : get_or (marks_of a) j 0 ≡ 0 = get_or_out (marks_of a) j 0 (rw (length_marks a) (omega arith)) in absurd (omega (arith, e, z))
]
  where
    go : (b : Bool) → among j a ≡ b → cond {A = ℕ} b 1 0 ≡ 1 → among j a ≡ true
    go true q e = q
    go false q e = absurd (omega arith)

-- each is 0 or 1
pub mark_small : (a : List ℕ) (j : ℕ) → get_or (marks_of a) j 0 ≤ 1
mark_small a j = elim (dec_lt j most_marks) [
  | yes h ↦ rw (mark_of a j h) (one_or_none (among j a))
  | no h ↦ rw (get_or_out (marks_of a) j 0 (omega (arith, length_marks a, h))) (omega arith)
]
  where
    one_or_none : (b : Bool) → cond {A = ℕ} b 1 0 ≤ 1
    one_or_none true = omega arith
    one_or_none false = omega arith
