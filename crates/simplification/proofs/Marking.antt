-- The marks have no influence on what simplifying gives, and only grow. Whatever was marked before, it gives the same tree, the same trees stored and the
-- same results kept, or refuses alike, with the same count (`marks_idle`); the marks after it, after a refusal too, are those before it and some more
-- (`marks_grow`), so a mark that was set stays (`mark_remains`). Assumes nothing.
use mathlib.Core.Path.{◌≡◌, refl, sym, ap, ◌∙◌}
use mathlib.Core.List.{List, [], ◌++◌}
use Prim.Native.Nat.{ℕ}
use lib.ListN.{length, get_or}
use Rattle.memory.specs.Marks.{noted}
use Rattle.memory.proofs.Marks.{noted_append, noted_length, mark_stays}
use Rattle.expression.specs.Trees.{Tree}
use Rattle.store.specs.Storing.{Tally, State, state, Answer, gives, refused, intern, noting}
use Rattle.sheet.specs.Rows.{Rows}
use Rattle.evaluation.specs.declared.Evaluation.{Evaluation}
use Rattle.simplification.specs.Simplifying.{counted, folded_to, keeping, simplify_by}
use Rattle.simplification.proofs.Tallying.{Beside, beside, Both, both_give, both_refuse, stores, folds, keeps, passed}

unfoldable pub marks_of : State → List ℕ
marks_of (state room stored kept tally) = tally.marks

unfoldable pub marks_after : Answer → List ℕ
marks_after (gives t s) = marks_of s
marks_after (refused why s) = marks_of s

-- the same state, whose marks are others
unfoldable pub with_marks : (marks : List ℕ) → State → State
with_marks marks (state room stored kept tally) = state room stored kept (record { calls = tally.calls; marks = marks })

abbrev pub SameCount : Tally → Tally → Type 0
SameCount a b = a.calls ≡ b.calls

-- some rows were noted
pub record Grown (before after : List ℕ) : Type 0 where
  pub rows : List ℕ
  pub are : after ≡ noted rows before

more_grown : {before marks : List ℕ} (js : List ℕ) → Grown before marks → Grown before (noted js marks)
more_grown {before} js g = record { rows = g.rows ++ js; are = ap (noted js) g.are ∙ sym (noted_append g.rows js before) }

not_yet_grown : (marks : List ℕ) → Grown marks marks
unfolding noted
not_yet_grown marks = record { rows = []; are = refl }

-- of two tallies the first one's marks have grown since
abbrev Since : (before : List ℕ) → Tally → Tally → Type 0
Since before a b = Grown before a.marks

all_grown : {before : List ℕ} {a b : Answer} → Both (Since before) a b → Grown before (marks_after a)
unfolding marks_of marks_after
all_grown (both_give t s s' (beside room stored kept a b g)) = g
all_grown (both_refuse why s s' (beside room stored kept a b g)) = g

-- ---- what storing, folding and keeping do to marks: nothing

abbrev Has : (marks : List ℕ) → Tally → Tally → Type 0
Has marks a b = a.marks ≡ marks

state_has : (s : State) → Beside (Has (marks_of s)) s s
unfolding marks_of
state_has (state room stored kept tally) = beside room stored kept tally tally refl

answer_has : (a : Answer) → Both (Has (marks_after a)) a a
unfolding marks_after
answer_has (gives t s) = both_give t s s (state_has s)
answer_has (refused why s) = both_refuse why s s (state_has s)

they_are : {marks : List ℕ} {a b : Answer} → Both (Has marks) a b → marks_after a ≡ marks
unfolding marks_of marks_after
they_are (both_give t s s' (beside room stored kept a b e)) = e
they_are (both_refuse why s s' (beside room stored kept a b e)) = e

pub stores_marks : (t : Tree) (s : State) → marks_after (intern t s) ≡ marks_of s
stores_marks t s = they_are (stores (Has (marks_of s)) t s s (state_has s))

pub folds_marks : (v : Evaluation) (s : State) → marks_after (folded_to v s) ≡ marks_of s
folds_marks v s = they_are (folds (Has (marks_of s)) v s s (state_has s))

pub keeps_marks : (t : Tree) (a : Answer) → marks_after (keeping t a) ≡ marks_after a
keeps_marks t a = they_are (keeps (Has (marks_after a)) t (answer_has a))

pub counted_marks : (more : ℕ → ℕ) (s : State) → marks_of (counted more s) ≡ marks_of s
unfolding marks_of counted
counted_marks more (state room stored kept tally) = refl

pub noted_marks : (js : List ℕ) (s : State) → marks_of (noting js s) ≡ noted js (marks_of s)
unfolding marks_of noting
noted_marks js (state room stored kept tally) = refl

-- ---- all of simplifying, however a call is counted

module _ (more : ℕ → ℕ) (R : Rows) (limit : ℕ) (t : Tree) where
  pub marks_idle : (marks : List ℕ) (s : State) → Both SameCount (simplify_by more R limit t (with_marks marks s)) (simplify_by more R limit t s)
  unfolding with_marks
  marks_idle marks (state room stored kept tally) =
      passed SameCount more more (record { counts = λ a b e. ap more e; notes = λ js a b e. e }) R limit t _ _ (beside room stored kept _ tally refl)

  pub marks_grow : (s : State) → Grown (marks_of s) (marks_after (simplify_by more R limit t s))
  unfolding marks_of
  marks_grow (state room stored kept tally) =
      all_grown (passed (Since tally.marks) more more (record { counts = λ a b g. g; notes = λ js a b g. more_grown js g }) R limit t _ _ (beside room stored kept tally tally (not_yet_grown tally.marks)))

  pub mark_remains : (s : State) (j : ℕ) → get_or (marks_of s) j 0 ≡ 1 → get_or (marks_after (simplify_by more R limit t s)) j 0 ≡ 1
  mark_remains s j e = let g = marks_grow s in rw g.are (mark_stays g.rows (marks_of s) j e)

  pub as_many_marks : (s : State) → length (marks_after (simplify_by more R limit t s)) ≡ length (marks_of s)
  as_many_marks s = let g = marks_grow s in ap length g.are ∙ noted_length g.rows (marks_of s)
