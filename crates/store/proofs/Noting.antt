-- The marks on the desk: which words leave them as they are, and what marking one or two rows makes of them. Assumes nothing.
use mathlib.Core.Path.{◌≡◌, refl, sym, ap, ◌∙◌}
use mathlib.Core.List.{List}
use Prim.Native.Nat.{ℕ, ◌+◌, ◌<◌}
use native.Mathlib.Omega.{arith}
use lib.ListN.{length, set, length-set}
use lib.Seq.{get_or-set_other, drop-set-lt, drop-set-add}
use Rattle.std.specs.Prelude.{Option, Some, None}
use Rattle.memory.specs.Layout.{marks_from, numbered}
use Rattle.memory.specs.Marks.{noted}
use Rattle.memory.proofs.Marks.{noted_append}
use Rattle.store.specs.Desk.{count, calls_on, marks_on, with_mark, Notes}

pub marks_below : (d : List ℕ) (k v : ℕ) → k < marks_from → marks_on (set d k v) ≡ marks_on d
unfolding marks_on
marks_below d k v l = drop-set-lt marks_from d k v l

-- ---- one row

count_marked : (d : List ℕ) (row : Option ℕ) → count (with_mark d row) ≡ count d
unfolding count with_mark
count_marked d None = refl
count_marked d (Some j) = get_or-set_other d (marks_from + j) 0 1 0 λ x. absurd (omega arith)

calls_marked : (d : List ℕ) (row : Option ℕ) → calls_on (with_mark d row) ≡ calls_on d
unfolding calls_on with_mark
calls_marked d None = refl
calls_marked d (Some j) = get_or-set_other d (marks_from + j) 1 1 0 λ x. absurd (omega arith)

length_marked : (d : List ℕ) (row : Option ℕ) → length (with_mark d row) ≡ length d
unfolding with_mark
length_marked d None = refl
length_marked d (Some j) = length-set d (marks_from + j) 1

marks_marked : (d : List ℕ) (row : Option ℕ) → marks_on (with_mark d row) ≡ noted (numbered row) (marks_on d)
unfolding marks_on with_mark noted numbered
marks_marked d None = refl
marks_marked d (Some j) = drop-set-add marks_from d j 1

-- ---- two rows

pub notes : (d : List ℕ) (first second : Option ℕ) {d₁ d₂ : List ℕ} → d₁ ≡ with_mark d first → d₂ ≡ with_mark d₁ second → Notes first second d d₂
notes d first second e f = rw (f, e) (record {
  counted = count_marked (with_mark d first) second ∙ count_marked d first;
  called = calls_marked (with_mark d first) second ∙ calls_marked d first;
  long = length_marked (with_mark d first) second ∙ length_marked d first;
  marked = marks_marked (with_mark d first) second ∙ ap (noted (numbered second)) (marks_marked d first) ∙ sym (noted_append (numbered first) (numbered second) (marks_on d));
})
