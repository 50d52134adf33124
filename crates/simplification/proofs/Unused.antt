-- A t row that simplifying does not mark can be taken away: whatever was marked before, it gives the same tree, the same trees stored and the same results
-- kept, or refuses alike, with the same count; and each other row has the mark that it had, at its new place. Assumes nothing.
use mathlib.Core.Path.{◌≡◌, refl, sym, ap, ◌∙◌, subst}
use mathlib.Core.Bool.{Bool, true, false}
use mathlib.Core.Logic.{◌≢◌}
use mathlib.Core.List.{List, [], ◌++◌, map, map-append}
use Prim.Native.Nat.{ℕ, zero, suc, ◌<◌}
use native.Mathlib.Omega.{arith}
use lib.ListN.{length, get_or}
use Rattle.memory.specs.Marks.{most_marks, no_marks, noted}
use Rattle.memory.proofs.Marks.{among, among_append, noted_append, noted_length, mark_noted, mark_stays, length_marks}
use Rattle.expression.specs.Trees.{Tree, infixed}
use Rattle.store.specs.Storing.{Kept, nothing, result, Tally, State, state, Answer, gives, refused, and_then, intern, recall, noting}
use Rattle.sheet.specs.Rows.{Rows}
use Rattle.sheet.specs.Without.{without_row, renumbered}
use Rattle.sheet.proofs.Numbering.{marks_renumbered}
use Rattle.evaluation.specs.declared.Evaluation.{Evaluation}
use Rattle.evaluation.proofs.Unused.{Same, function_same, infix_same}
use Rattle.tasks.specs.Tasks.{Task, number_of_pi, itself, calling, prefixing, infixing, task_at}
use Rattle.arms.specs.Arms.{Plan, smaller, function_plan, prefix_plan, the, new, folded, called, negation, combined, S, lesser, affine, minus, sum, product}
use Rattle.arms.specs.Ordered.{infix_plan}
use Rattle.simplification.specs.Simplifying.{Simplifier, counted, folded_to, again, keeping, carry_out, simplify_function_call, simplify_prefix, simplify_infix, perform, resume, step, simplify_by}
use Rattle.simplification.proofs.Tallying.{Beside, beside, Both, both_give, both_refuse, stores, folds, keeps}
use Rattle.simplification.proofs.Marking.{marks_of, marks_after, with_marks, stores_marks, folds_marks, keeps_marks, counted_marks, noted_marks}

-- what is done to tallies keeps them related, as long as row j is none of the rows that are noted
record PassingWithout (j : ℕ) (more : ℕ → ℕ) (Related : Tally → Tally → Type 0) : Type 0 where
  pub inside : (a b : Tally) → Related a b → j < length a.marks
  pub counts : (a b : Tally) → Related a b → Related (record { calls = more a.calls; marks = a.marks }) (record { calls = more b.calls; marks = b.marks })
  pub notes : (js : List ℕ) (a b : Tally) → among j js ≡ false → Related a b
      → Related (record { calls = a.calls; marks = noted js a.marks }) (record { calls = b.calls; marks = noted (map (renumbered j) js) b.marks })

module _ (more : ℕ → ℕ) (R : Rows) (j : ℕ) (Related : Tally → Tally → Type 0) (law : PassingWithout j more Related) where
  -- row j is marked, or all is the same without it
  data Either (a a' : Answer) : Type 0 where
    marked : get_or (marks_after a) j 0 ≡ 1 → Either a a'
    same : Both Related a a' → Either a a'

  -- two ways to an answer, with and without row j: a mark of row j stays, and until there is one both give the same
  record Like (f g : State → Answer) : Type 0 where
    pub remains : (s : State) → get_or (marks_of s) j 0 ≡ 1 → get_or (marks_after (f s)) j 0 ≡ 1
    pub alike : (s s' : State) → Beside Related s s' → Either (f s) (g s')

  abbrev LikeAll : (σ τ : Simplifier) → Type 0
  LikeAll σ τ = (t : Tree) → Like (σ t) (τ t)

  -- ---- one after another

  remains_after : (a : Answer) (h k : Simplifier) → LikeAll h k → get_or (marks_after a) j 0 ≡ 1 → get_or (marks_after (and_then a h)) j 0 ≡ 1
  unfolding and_then marks_after
  remains_after (gives t s) h k l m = (l t).remains s m
  remains_after (refused why s) h k l m = m

  either_after : {a a' : Answer} (h k : Simplifier) → LikeAll h k → Either a a' → Either (and_then a h) (and_then a' k)
  unfolding and_then
  either_after {a} h k l (marked m) = marked (remains_after a h k l m)
  either_after h k l (same (both_give t s s' x)) = (l t).alike s s' x
  either_after h k l (same (both_refuse why s s' x)) = same (both_refuse why s s' x)

  next : {f g : State → Answer} (h k : Simplifier) → Like f g → LikeAll h k → Like (λ s. and_then (f s) h) (λ s. and_then (g s) k)
  next {f} {g} h k first l = record {
    remains = λ s m. remains_after (f s) h k l (first.remains s m);
    alike = λ s s' x. either_after h k l (first.alike s s' x);
  }

  -- ---- storing and keeping

  gives_like : LikeAll gives gives
  unfolding marks_after
  gives_like t = record { remains = λ s m. m; alike = λ s s' x. same (both_give t s s' x) }

  stores_like : LikeAll intern intern
  stores_like t = record {
    remains = λ s m. rw (stores_marks t s) m;
    alike = λ s s' x. same (stores Related t s s' x);
  }

  either_kept : (t : Tree) {a a' : Answer} → Either a a' → Either (keeping t a) (keeping t a')
  either_kept t {a} (marked m) = marked (rw (keeps_marks t a) m)
  either_kept t (same b) = same (keeps Related t b)

  keeps_like : (t : Tree) {f g : State → Answer} → Like f g → Like (λ s. keeping t (f s)) (λ s. keeping t (g s))
  keeps_like t {f} {g} l = record {
    remains = λ s m. rw (keeps_marks t (f s)) (l.remains s m);
    alike = λ s s' x. either_kept t (l.alike s s' x);
  }

  again_like : (σ τ : Simplifier) → LikeAll σ τ → LikeAll (again σ) (again τ)
  unfolding again
  again_like σ τ l t = next σ τ (stores_like t) l

  -- ---- a fold: row j is among those that it notes, or it gives the same without it

  notes_beside : (js : List ℕ) (s s' : State) → among j js ≡ false → Beside Related s s' → Beside Related (noting js s) (noting (map (renumbered j) js) s')
  unfolding noting
  notes_beside js s s' n (beside room stored kept a b x) = beside room stored kept _ _ (law.notes js a b n x)

  notes_marked : (js : List ℕ) (s s' : State) → among j js ≡ true → Beside Related s s' → get_or (marks_of (noting js s)) j 0 ≡ 1
  unfolding noting marks_of
  notes_marked js s s' y (beside room stored kept a b x) = mark_noted js a.marks j (law.inside a b x) ∙ rw y refl

  folds_like : {v v' : Evaluation} {js js' : List ℕ} → (among j js ≡ false → Same j v v' js js') → Like (λ s. folded_to v (noting js s)) (λ s. folded_to v' (noting js' s))
  folds_like {v} {v'} {js} {js'} h = record {
    remains = λ s m. rw (folds_marks v (noting js s), noted_marks js s) (mark_stays js (marks_of s) j m);
    alike = λ s s' x. go (among j js) refl s s' x;
  }
    where
      go : (b : Bool) → among j js ≡ b → (s s' : State) → Beside Related s s' → Either (folded_to v (noting js s)) (folded_to v' (noting js' s'))
      go true e s s' x = marked (rw (folds_marks v (noting js s)) (notes_marked js s s' e x))
      go false e s s' x = let q = h e in rw (q.answer, q.used) (same (folds Related v (noting js s) (noting (map (renumbered j) js) s') (notes_beside js s s' e x)))

  -- ---- plans

  carries : (σ τ : Simplifier) → LikeAll σ τ → (p : Plan) → Like (carry_out R σ p) (carry_out (without_row j R) τ p)
  unfolding carry_out
  carries σ τ l (the t) = gives_like t
  carries σ τ l (new t) = stores_like t
  carries σ τ l (folded op x y) = folds_like (infix_same R j op x y)
  carries σ τ l (called f x) = folds_like (function_same R j f x)
  carries σ τ l (negation p) = next _ _ (carries σ τ l p) λ t. stores_like (minus t)
  carries σ τ l (combined op p q) = next _ _ (carries σ τ l p) λ t. next _ _ (carries σ τ l q) λ u. stores_like (infixed op t u)
  carries σ τ l (S p) = next σ τ (carries σ τ l p) l
  carries σ τ l (lesser p q) = next _ _ (carries σ τ l p) λ t. next _ _ (carries σ τ l q) λ u. gives_like (smaller t u)
  carries σ τ l (affine a x b) =
      next _ _ (again_like σ τ l a) λ u.
      next _ _ (again_like σ τ l b) λ v.
      next _ _ (again_like σ τ l (product u x)) λ w.
      again_like σ τ l (sum w v)

  -- ---- one call of simplify

  module _ (σ τ σ' τ' : Simplifier) (l : LikeAll σ τ) (l' : LikeAll σ' τ') where
    performs : (task : Task) → Like (perform R σ σ' task) (perform (without_row j R) τ τ' task)
    unfolding perform simplify_function_call simplify_prefix simplify_infix
    performs number_of_pi = stores_like _
    performs (itself t) = gives_like t
    performs (calling f t) = next _ _ (l t) λ x. carries σ' τ' l' (function_plan f x)
    performs (prefixing o t) = next _ _ (l t) λ x. carries σ' τ' l' (prefix_plan o x)
    performs (infixing o t u) = next _ _ (l t) λ x. next _ _ (l u) λ y. carries σ' τ' l' (infix_plan o x y)

    resumes : (k : Kept) (limit : ℕ) → LikeAll (resume R σ σ' k limit) (resume (without_row j R) τ τ' k limit)
    unfolding resume
    resumes (result u) limit t = gives_like u
    resumes nothing limit t = keeps_like t (performs (task_at limit t))

    step_alike : (limit : ℕ) (t : Tree) (s s' : State) → Beside Related s s' → Either (step more R σ σ' limit t s) (step more (without_row j R) τ τ' limit t s')
    unfolding step recall counted
    step_alike limit t s s' (beside room stored kept a b x) = (resumes (kept t) limit t).alike _ _ (beside room stored kept _ _ (law.counts a b x))

    steps : (limit : ℕ) → LikeAll (step more R σ σ' limit) (step more (without_row j R) τ τ' limit)
    unfolding step
    steps limit t = record {
      remains = λ s m. (resumes (recall t s) limit t).remains (counted more s) (rw (counted_marks more s) m);
      alike = step_alike limit t;
    }

  simplifies : (k : ℕ) → LikeAll (simplify_by more R k) (simplify_by more (without_row j R) k)
  unfolding simplify_by
  simplifies zero = steps gives gives gives gives gives_like gives_like 0
  simplifies (suc zero) =
      steps (simplify_by more R 0) (simplify_by more (without_row j R) 0) (simplify_by more R 0) (simplify_by more (without_row j R) 0) (simplifies zero) (simplifies zero) 1
  simplifies (suc (suc k)) =
      steps (simplify_by more R (suc k)) (simplify_by more (without_row j R) (suc k)) (simplify_by more R k) (simplify_by more (without_row j R) k) (simplifies (suc k)) (simplifies k) (suc (suc k))

  unmarked_same : {a a' : Answer} → get_or (marks_after a) j 0 ≡ 0 → Either a a' → Both Related a a'
  unmarked_same z (marked m) = absurd (omega (arith, z, m))
  unmarked_same z (same b) = b

-- ---- the same count, and the same rows noted, by the numbers that they then have; row j is none of them

pub record Renumbered (j : ℕ) (marks marks' : List ℕ) (a b : Tally) : Type 0 where
  pub calls : a.calls ≡ b.calls
  pub rows : List ℕ
  pub other : among j rows ≡ false
  pub first : a.marks ≡ noted rows marks
  pub second : b.marks ≡ noted (map (renumbered j) rows) marks'

none_noted : (j : ℕ) (marks marks' : List ℕ) (calls : ℕ) → Renumbered j marks marks' (record { calls = calls; marks = marks }) (record { calls = calls; marks = marks' })
unfolding noted among
none_noted j marks marks' calls = record { calls = refl; rows = []; other = refl; first = refl; second = refl }

more_noted : {j : ℕ} {marks marks' : List ℕ} (js : List ℕ) {a b : Tally} → among j js ≡ false → Renumbered j marks marks' a b
    → Renumbered j marks marks' (record { calls = a.calls; marks = noted js a.marks }) (record { calls = b.calls; marks = noted (map (renumbered j) js) b.marks })
more_noted {j} {marks} {marks'} js n x = record {
  calls = x.calls;
  rows = x.rows ++ js;
  other = rw (among_append j x.rows js, x.other) n;
  first = ap (noted js) x.first ∙ sym (noted_append x.rows js marks);
  second = ap (noted (map (renumbered j) js)) x.second ∙ sym (noted_append (map (renumbered j) x.rows) (map (renumbered j) js) marks')
      ∙ ap (λ rows. noted rows marks') (sym (map-append (renumbered j) x.rows js));
}

renumbering : (more : ℕ → ℕ) (j : ℕ) (marks marks' : List ℕ) → j < length marks → PassingWithout j more (Renumbered j marks marks')
renumbering more j marks marks' h = record {
  inside = λ a b x. rw (x.first, noted_length x.rows marks) h;
  counts = λ a b x. record { calls = ap more x.calls; rows = x.rows; other = x.other; first = x.first; second = x.second };
  notes = λ js a b n x. more_noted js n x;
}

-- a row that is not used can be taken away with no change of the answer, however a call is counted and whatever was marked
pub simplifies_without : (more : ℕ → ℕ) (R : Rows) (j limit : ℕ) (t : Tree) (marks : List ℕ) (s : State) → j < length (marks_of s)
    → get_or (marks_after (simplify_by more R limit t s)) j 0 ≡ 0
    → Both (Renumbered j (marks_of s) marks) (simplify_by more R limit t s) (simplify_by more (without_row j R) limit t (with_marks marks s))
unfolding marks_of with_marks
simplifies_without more R j limit t marks (state room stored kept tally) h z =
    let law = renumbering more j tally.marks marks h in
    let x = beside room stored kept tally _ (none_noted j tally.marks marks tally.calls) in
    unmarked_same more R j _ law z ((simplifies more R j _ law limit t).alike _ _ x)

-- so it is where none was marked before
pub simplifies_unmarked : (more : ℕ → ℕ) (R : Rows) (j limit : ℕ) (t : Tree) (s : State) → marks_of s ≡ no_marks → j < most_marks → get_or (marks_after (simplify_by more R limit t s)) j 0 ≡ 0
    → Both (Renumbered j no_marks no_marks) (simplify_by more R limit t s) (simplify_by more (without_row j R) limit t s)
unfolding marks_of with_marks noted
simplifies_unmarked more R j limit t (state room stored kept tally) e l z =
    subst (λ m. Both (Renumbered j m m) (simplify_by more R limit t (state room stored kept tally)) (simplify_by more (without_row j R) limit t (state room stored kept tally))) e
    (simplifies_without more R j limit t tally.marks (state room stored kept tally) (rw (e, length_marks []) l) z)

-- and each other row has the mark that it had
pub marks_without : {j : ℕ} {a b : Answer} → Both (Renumbered j no_marks no_marks) a b → (i : ℕ) → i ≢ j → i < most_marks → get_or (marks_after b) (renumbered j i) 0 ≡ get_or (marks_after a) i 0
unfolding marks_of marks_after
marks_without {j} (both_give t s s' (beside room stored kept a b x)) i n l = rw (x.first, x.second) (marks_renumbered j i x.rows n x.other l)
marks_without {j} (both_refuse why s s' (beside room stored kept a b x)) i n l = rw (x.first, x.second) (marks_renumbered j i x.rows n x.other l)
