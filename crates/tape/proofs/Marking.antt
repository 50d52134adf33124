-- The rows that the player marks: after each step, with those that the steps which are left use, they come to those of the whole tape. Assumes nothing.
use mathlib.Core.Path.{◌≡◌, refl, sym, ap, ◌∙◌}
use mathlib.Core.Bool.{false, true≢false}
use mathlib.Core.List.{List, [], map}
use mathlib.Core.Logic.{⊎_elim}
use Prim.Native.Nat.{ℕ, zero, suc, ◌+◌, ◌*◌, ◌-◌, ◌<◌, ◌≤◌}
use native.Mathlib.Omega.{arith}
use lib.ListN.{length, get_or, set, drop}
use Rattle.std.specs.Prelude.{Option}
use Rattle.complex.specs.declared.Complex.{Complex}
use Rattle.expression.specs.declared.InfixOperator.{InfixOperator}
use Rattle.memory.specs.Marks.{noted}
use Rattle.memory.proofs.Marks.{noted_append}
use Rattle.sheet.specs.Rows.{Rows, missing}
use Rattle.sheet.specs.Table.{seen_found}
use Rattle.evaluation.specs.declared.Evaluation.{Evaluation}
use Rattle.evaluation.specs.Using.{used_by_infix}
use Rattle.steps.specs.declared.Step.{Step}
use Rattle.steps.specs.declared.Fields.{Fields}
use Rattle.steps.specs.Steps.{fields_in, step_of}
use Rattle.tape.specs.Tapes.{count, takes}
use Rattle.tape.specs.Playing.{push, step}
use Rattle.tape.specs.Using.{on_stack, used_by_step, used_in_run, used_playing}
use Rattle.tape.specs.Run.{filler, stack_of, value_of, used_at, seen_value, asks, Values}
use Rattle.tape.proofs.Ways.{first_four, as_number, as_pi, as_variable, as_cell, Lacks, missing_lacks}
use Rattle.tape.proofs.Checking.{none_left}
use Rattle.tape.proofs.Stacks.{step_is, Left, left_steps, Same, taken, next_left, reads, player_leaves}

-- ---- the rows of a step

-- one that is not asked for uses none
pub unasked : (rows : Rows) (s : Step) (x y : Complex) → asks s ≡ false → used_at rows s x y ≡ []
unfolding asks used_at used_by_infix
unasked rows (Step.Number z) x y e = refl
unasked rows Step.Pi x y e = refl
unasked rows (Step.Variable v) x y e = refl
unasked rows (Step.Memory region index) x y e = refl
unasked rows (Step.Function f) x y e = absurd (true≢false e)
unasked rows (Step.Prefix o) x y e = refl
unasked rows (Step.Infix InfixOperator.Plus) x y e = refl
unasked rows (Step.Infix InfixOperator.Minus) x y e = refl
unasked rows (Step.Infix InfixOperator.Star) x y e = refl
unasked rows (Step.Infix InfixOperator.Slash) x y e = refl
unasked rows (Step.Infix InfixOperator.Caret) x y e = absurd (true≢false e)

-- a leaf is not asked for
pub leaf_unasked : (f : Fields) → 0 < f.opcode → f.opcode < 5 → asks (step_of f) ≡ false
unfolding asks
leaf_unasked f p q =
    ⊎_elim (λ e. ap asks (as_number f e)) (⊎_elim (λ e. ap asks (as_pi f e)) (⊎_elim (λ e. ap asks (as_variable f e)) (λ e. ap asks (as_cell f e)))) (first_four f.opcode p q)

module _ (rows : Rows) (s : Step) (x y : Complex) (r : Option Complex) (v : seen_found r ≡ seen_value (value_of rows s x y)) where
  pub unmarked_values : {marks : List ℕ} → asks s ≡ false → Values rows s x y r marks marks
  unfolding noted
  unmarked_values {marks} e = record { value = v; marked = ap (λ u. noted u marks) (sym (unasked rows s x y e)) }

  pub marked_values : {u marks marks' : List ℕ} → u ≡ used_at rows s x y → marks' ≡ noted u marks → Values rows s x y r marks marks'
  marked_values {marks = marks} e p = record { value = v; marked = p ∙ ap (λ u. noted u marks) e }

step_used : (rows : Rows) (s : Step) (xs : List Complex) (depth : ℕ) → takes s ≤ depth
    → used_by_step rows s (stack_of xs depth) ≡ used_at rows s (get_or xs (depth - takes s) filler) (get_or xs (suc (depth - takes s)) filler)
unfolding takes used_by_step used_at stack_of
step_used rows (Step.Number z) xs depth l = refl
step_used rows Step.Pi xs depth l = refl
step_used rows (Step.Variable v) xs depth l = refl
step_used rows (Step.Memory region index) xs depth l = refl
step_used rows (Step.Function f) xs zero l = absurd (omega (arith, l))
step_used rows (Step.Function f) xs (suc k) l =
    let p : suc k - 1 ≡ k = omega arith in
    rw p refl
step_used rows (Step.Prefix o) xs depth l = refl
step_used rows (Step.Infix o) xs zero l = absurd (omega (arith, l))
step_used rows (Step.Infix o) xs (suc zero) l = absurd (omega (arith, l))
step_used rows (Step.Infix o) xs (suc (suc k)) l =
    let p : suc (suc k) - 2 ≡ k = omega arith in
    rw p refl

used_second : (rows : Rows) (s : Step) (x y y' : Complex) → (takes s ≡ 2 → y ≡ y') → used_at rows s x y ≡ used_at rows s x y'
unfolding takes used_at
used_second rows (Step.Number z) x y y' p = refl
used_second rows Step.Pi x y y' p = refl
used_second rows (Step.Variable v) x y y' p = refl
used_second rows (Step.Memory region index) x y y' p = refl
used_second rows (Step.Function f) x y y' p = refl
used_second rows (Step.Prefix o) x y y' p = refl
used_second rows (Step.Infix o) x y y' p = ap (used_at rows (Step.Infix o) x) (p refl)

-- after a lack nothing is used
on_lack : (w : Evaluation) (stack : List Complex) (next : List Complex → List ℕ) → Lacks w → on_stack (push w stack) next ≡ []
unfolding on_stack push
on_lack (Evaluation.Value z) stack next k = absurd (⊎_elim (λ e. omega (arith, e)) (λ e. omega (arith, e)) k)
on_lack Evaluation.Incomplete stack next k = refl
on_lack (Evaluation.Need operation x y) stack next k = refl

-- ---- what is left to be marked

-- it comes to the marks of the whole tape
pub record Marking (rows : Rows) (bs : List ℕ) (i : ℕ) (xs : List Complex) (depth : ℕ) (marks₀ marks : List ℕ) : Type 0 where
  pub comes : noted (used_in_run rows (left_steps bs i) (stack_of xs depth)) marks ≡ noted (used_playing rows bs) marks₀

module _ {bs : List ℕ} {i depth : ℕ} (h : Left bs i depth) (l : i < count bs) {f : Fields} {s : Step} (e : f ≡ fields_in (drop (24 * i) bs)) (t : s ≡ step_of f) {k : ℕ} (w : k ≡ takes s)
    (rows : Rows) (xs : List Complex) (r : Same rows bs i xs depth) (y : Complex) {value : Evaluation} (q : suc (depth - k) < 64 → y ≡ get_or xs (suc (depth - k)) filler)
    (v : value ≡ value_of rows s (get_or xs (depth - k) filler) y) {marks₀ marks marks' : List ℕ} (d : Marking rows bs i xs depth marks₀ marks)
    (u : marks' ≡ noted (used_at rows s (get_or xs (depth - k) filler) y) marks) where
  used_now : used_by_step rows s (stack_of xs depth) ≡ used_at rows s (get_or xs (depth - k) filler) y
  used_now =
      step_used rows s xs depth (taken h l e t).enough
      ∙ (λ j. used_at rows s (get_or xs (depth - sym w j) filler) (get_or xs (suc (depth - sym w j)) filler))
      ∙ sym (used_second rows s (get_or xs (depth - k) filler) y (get_or xs (suc (depth - k)) filler) λ two. q (omega (arith, w, two, (taken h l e t).enough, h.few)))

  -- the marks of this step, and then of the rest
  now_marked : noted (on_stack (step rows s (stack_of xs depth)) λ stack. used_in_run rows (left_steps bs (i + 1)) stack) marks' ≡ noted (used_playing rows bs) marks₀
  unfolding used_in_run
  now_marked =
      ap (noted _) (u ∙ ap (λ x. noted x marks) (sym used_now))
      ∙ sym (noted_append (used_by_step rows s (stack_of xs depth)) _ marks)
      ∙ ap (λ ss. noted (used_in_run rows ss (stack_of xs depth)) marks) (sym (next_left h l e t)) ∙ d.comes

  pub still_marking : {z : Complex} → length xs ≡ 64 → value ≡ Evaluation.Value z → Marking rows bs (i + 1) (set xs (depth - k) z) (depth - k + 1) marks₀ marks'
  unfolding on_stack
  still_marking long p =
      record { comes = ap (λ o. noted (on_stack o λ stack. used_in_run rows (left_steps bs (i + 1)) stack) marks') (sym (player_leaves h l e t w rows xs r y q v long p)) ∙ now_marked }

  -- at a lack all is marked
  pub lack_marked : seen_value (value_of rows s (get_or xs (depth - k) filler) y) ≡ missing → marks' ≡ noted (used_playing rows bs) marks₀
  unfolding noted
  lack_marked m =
      let lacks = missing_lacks value (ap seen_value v ∙ m) in
      let none = ap (λ o. on_stack o λ stack. used_in_run rows (left_steps bs (i + 1)) stack) (step_is rows s xs depth (taken h l e t).enough ∙ ap (λ x. push x (stack_of xs (depth - takes s))) (sym (reads h l e t w rows xs r y q v)))
      ∙ on_lack value (stack_of xs (depth - takes s)) (λ stack. used_in_run rows (left_steps bs (i + 1)) stack) lacks in
      ap (λ x. noted x marks') (sym none) ∙ now_marked

-- at the end nothing is left
pub end_marked : (rows : Rows) (bs : List ℕ) (i depth : ℕ) (xs : List Complex) {marks₀ marks : List ℕ} → count bs ≤ i → Marking rows bs i xs depth marks₀ marks → marks ≡ noted (used_playing rows bs) marks₀
unfolding used_in_run noted
end_marked rows bs i depth xs {marks₀} {marks} l d = ap (λ fs. noted (used_in_run rows (map step_of fs) (stack_of xs depth)) marks) (sym (none_left (count bs) i bs l)) ∙ d.comes
