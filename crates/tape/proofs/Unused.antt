-- A t row that playing does not use can be taken away: the answer is the same, and so are the rows used, by the numbers that they then have.
-- Assumes nothing.
use mathlib.Core.Path.{◌≡◌, refl, sym, ap, ◌∙◌}
use mathlib.Core.List.{List, [], ◌∷◌, map, map-append}
use mathlib.Core.Bool.{false}
use Prim.Native.Nat.{ℕ, ◌<◌}
use lib.ListN.{get_or}
use Rattle.complex.specs.declared.Complex.{Complex}
use Rattle.expression.specs.Trees.{number, pi, variable, cell}
use Rattle.memory.specs.Marks.{most_marks, marks_of}
use Rattle.memory.proofs.Marks.{among, among_neither, unmarked}
use Rattle.sheet.specs.Rows.{Rows}
use Rattle.sheet.specs.Without.{without_row, renumbered}
use Rattle.evaluation.proofs.Unused.{function_same, infix_same, leaf_same}
use Rattle.steps.specs.declared.Step.{Step}
use Rattle.tape.specs.Tapes.{steps_in}
use Rattle.tape.specs.Playing.{Outcome, stands, lacks, breaks, push, and_then, result, step, run, played}
use Rattle.tape.specs.Using.{on_stack, used_by_step, used_in_run, used_playing}

-- the same outcome, and the same rows by other numbers
record Same (j : ℕ) (o o' : Outcome) (rows rows' : List ℕ) : Type 0 where
  pub outcome : o' ≡ o
  pub used : rows' ≡ map (renumbered j) rows

module _ (rows : Rows) (j : ℕ) where
  step_same : (s : Step) (stack : List Complex) → among j (used_by_step rows s stack) ≡ false
      → Same j (step rows s stack) (step (without_row j rows) s stack) (used_by_step rows s stack) (used_by_step (without_row j rows) s stack)
  unfolding step used_by_step
  step_same (Step.Number z) stack n = record { outcome = ap (λ e. push e stack) (leaf_same rows j (number z)); used = refl }
  step_same Step.Pi stack n = record { outcome = ap (λ e. push e stack) (leaf_same rows j pi); used = refl }
  step_same (Step.Variable v) stack n = record { outcome = ap (λ e. push e stack) (leaf_same rows j (variable v)); used = refl }
  step_same (Step.Memory region index) stack n = record { outcome = ap (λ e. push e stack) (leaf_same rows j (cell region index)); used = refl }
  step_same (Step.Function f) [] n = record { outcome = refl; used = refl }
  step_same (Step.Function f) (x ∷ stack) n = let s = function_same rows j f x n in record { outcome = ap (λ e. push e stack) s.answer; used = s.used }
  step_same (Step.Prefix o) [] n = record { outcome = refl; used = refl }
  step_same (Step.Prefix o) (x ∷ stack) n = record { outcome = refl; used = refl }
  step_same (Step.Infix o) [] n = record { outcome = refl; used = refl }
  step_same (Step.Infix o) (y ∷ []) n = record { outcome = refl; used = refl }
  step_same (Step.Infix o) (y ∷ x ∷ stack) n = let s = infix_same rows j o x y n in record { outcome = ap (λ e. push e stack) s.answer; used = s.used }

  -- on the stack that a step leaves
  left_same : (ss : List Step) (o : Outcome)
      → ((stack : List Complex) → among j (used_in_run rows ss stack) ≡ false → Same j (run rows ss stack) (run (without_row j rows) ss stack) (used_in_run rows ss stack) (used_in_run (without_row j rows) ss stack))
      → among j (on_stack o (λ stack. used_in_run rows ss stack)) ≡ false
      → Same j (and_then o (λ stack. run rows ss stack)) (and_then o (λ stack. run (without_row j rows) ss stack)) (on_stack o (λ stack. used_in_run rows ss stack)) (on_stack o (λ stack. used_in_run (without_row j rows) ss stack))
  unfolding and_then on_stack
  left_same ss (stands stack) h n = h stack n
  left_same ss (lacks e) h n = record { outcome = refl; used = refl }
  left_same ss breaks h n = record { outcome = refl; used = refl }

  run_same : (ss : List Step) (stack : List Complex) → among j (used_in_run rows ss stack) ≡ false
      → Same j (run rows ss stack) (run (without_row j rows) ss stack) (used_in_run rows ss stack) (used_in_run (without_row j rows) ss stack)
  unfolding run used_in_run
  run_same [] stack n = record { outcome = refl; used = refl }
  run_same (s ∷ ss) stack n =
      let b = among_neither j (used_by_step rows s stack) _ n in
      let first = step_same s stack b.0 in
      let next = left_same ss (step rows s stack) (λ stack n. run_same ss stack n) b.1 in
      record {
        outcome = ap (λ o. and_then o (λ stack. run (without_row j rows) ss stack)) first.outcome ∙ next.outcome;
        used = rw (first.outcome, first.used, next.used) (sym (map-append (renumbered j) (used_by_step rows s stack) _));
      }

  -- a row that is not used can be taken away with no change of the answer
  pub plays_without : (tape : List ℕ) → among j (used_playing rows tape) ≡ false → played (without_row j rows) tape ≡ played rows tape
  plays_without tape n = ap result (run_same (steps_in tape) [] n).outcome

  pub uses_without : (tape : List ℕ) → among j (used_playing rows tape) ≡ false → used_playing (without_row j rows) tape ≡ map (renumbered j) (used_playing rows tape)
  uses_without tape n = (run_same (steps_in tape) [] n).used

  -- so it is where the row's mark is 0
  pub plays_unmarked : (tape : List ℕ) → j < most_marks → get_or (marks_of (used_playing rows tape)) j 0 ≡ 0 → played (without_row j rows) tape ≡ played rows tape
  plays_unmarked tape l m = plays_without tape (unmarked (used_playing rows tape) j l m)
