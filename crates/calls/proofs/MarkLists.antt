-- The marks of the calls that take a sheet, for all inputs: those that some rows leave, and so 256 numbers, each 0 or 1. Assumes nothing.
use mathlib.Core.Path.{◌≡◌, refl, ap, ◌∙◌}
use mathlib.Core.Bool.{Bool, true, false, cond}
use mathlib.Core.List.{List, []}
use mathlib.Core.Logic.{◌⊎◌, inl, inr}
use Prim.Native.Nat.{ℕ, zero, suc, ◌≤◌}
use native.Mathlib.Omega.{arith}
use lib.ListN.{length, get_or}
use Rattle.std.specs.Prelude.{Result, Ok, Err}
use Rattle.memory.specs.Marks.{most_marks, no_marks, noted, marks_of}
use Rattle.memory.proofs.Marks.{length_marks, mark_small}
use Rattle.expression.specs.declared.refusal.Refusal.{Refusal}
use Rattle.expression.specs.Refusals.{is_lack}
use Rattle.expression.specs.Trees.{Tree}
use Rattle.store.specs.Storing.{State, fresh}
use Rattle.listing.specs.Listings.{given}
use Rattle.text.specs.Lines as Lines
use Rattle.text.specs.Lines.{Whole}
use Rattle.sheet.specs.Rows.{Rows, sheet}
use Rattle.evaluation.specs.Using.{used}
use Rattle.tasks.specs.Tasks.{is_allowed}
use Rattle.simplification.specs.Simplifying.{simplify}
use Rattle.simplification.proofs.Marking as Marking
use Rattle.simplification.proofs.Marking.{marks_grow}
use Rattle.tape.specs.Tapes.{check}
use Rattle.tape.specs.Using.{used_playing}
use Rattle.calls.specs.declared.Simplified.{Simplified}
use Rattle.calls.specs.Calls as Calls
use Rattle.calls.specs.Calls.{Job, ready, job, simplified_answer}
use Rattle.calls.specs.Marks.{evaluate_job_marks, evaluate_marks, play_sheet_marks, play_checked_marks, play_marks, marks_in, is_shown, shown, simplify_job_marks, simplify_marks}
use Rattle.calls.specs.Origins.{traced_simplified, traced_job_marks, simplify_origins_marks}
use Rattle.calls.proofs.Framing.{marks_after_lem}
use Rattle.calls.proofs.Results.{FreshJob, job_fresh}

-- ---- the marks that some rows leave

record Left (marks : List ℕ) : Type 0 where
  pub rows : List ℕ
  pub are : marks ≡ marks_of rows

none_left : Left no_marks
unfolding noted
none_left = record { rows = []; are = refl }

by_rows : (rows : List ℕ) → Left (marks_of rows)
by_rows rows = record { rows = rows; are = refl }

evaluated_left : (j : Job) → Left (evaluate_job_marks j)
unfolding evaluate_job_marks
evaluated_left (ready root store rows) = by_rows (used rows root)
evaluated_left (Calls.refused why) = none_left

played_left : (c : Result (Unit {0}) Refusal) (tape values : List ℕ) → Left (play_checked_marks c tape values)
unfolding play_checked_marks play_sheet_marks
played_left (Ok u) tape values = go (sheet values)
  where
    go : (w : Whole Rows Refusal) → Left (play_sheet_marks tape w)
    go (Lines.read rows) = by_rows (used_playing rows tape)
    go (Lines.refused why) = none_left
played_left (Err why) tape values = none_left

either_left : (b : Bool) {x y : List ℕ} → Left x → Left y → Left (cond b x y)
either_left true p q = p
either_left false p q = q

shown_left : (r : Result Simplified Refusal) {marks : List ℕ} → Left marks → Left (shown r marks)
unfolding shown is_shown
shown_left (Ok a) p = p
shown_left (Err why) p = either_left (is_lack why) p none_left

-- what simplifying marks where none was marked before
simplified_left : (rows : Rows) (limit : ℕ) (root : Tree) (store : State) → Marking.marks_of store ≡ no_marks → Left (marks_in (simplify rows limit root store))
simplified_left rows limit root store e =
    let g = marks_grow suc rows limit root store in
    record { rows = g.rows; are = marks_after_lem _ ∙ g.are ∙ ap (noted g.rows) e }

simplified_job_left : (limit : ℕ) (out : List ℕ) (j : Job) → FreshJob j → Left (simplify_job_marks limit out j)
unfolding simplify_job_marks FreshJob
simplified_job_left limit out (ready root store rows) f = shown_left (simplified_answer out (simplify rows limit root store)).0 (simplified_left rows limit root store f.unmarked)
simplified_job_left limit out (Calls.refused why) f = none_left

simplified_origins_left : (lines : List Tree) (limit : ℕ) (out : List ℕ) (j : Job) → FreshJob j → Left (traced_job_marks lines limit out j)
unfolding traced_job_marks FreshJob
simplified_origins_left lines limit out (ready root store rows) f = shown_left (traced_simplified lines out (simplify rows limit root store)).0 (simplified_left rows limit root store f.unmarked)
simplified_origins_left lines limit out (Calls.refused why) f = none_left

-- ---- "256 marks"

pub record Marks256 (marks : List ℕ) : Type 0 where
  pub long : length marks ≡ most_marks
  pub each : (j : ℕ) → (get_or marks j 0 ≡ 0) ⊎ (get_or marks j 0 ≡ 1)

at_most_one : (n : ℕ) → n ≤ 1 → (n ≡ 0) ⊎ (n ≡ 1)
at_most_one zero l = inl refl
at_most_one (suc zero) l = inr refl
at_most_one (suc (suc n)) l = absurd (omega (arith, l))

left_whole : {marks : List ℕ} → Left marks → Marks256 marks
left_whole p = record { long = ap length p.are ∙ length_marks p.rows; each = λ j. at_most_one _ (rw p.are (mark_small p.rows j)) }

pub evaluate_marks_whole : (room : ℕ) (list values : List ℕ) → Marks256 (evaluate_marks room list values)
evaluate_marks_whole room list values = left_whole (evaluated_left (job room list values))

pub play_marks_whole : (tape values : List ℕ) → Marks256 (play_marks tape values)
play_marks_whole tape values = left_whole (played_left (check tape) tape values)

pub simplify_marks_whole : (room limit : ℕ) (list values out : List ℕ) → Marks256 (simplify_marks room limit list values out)
unfolding simplify_marks
simplify_marks_whole room limit list values out =
    left_whole (either_left (is_allowed limit) (simplified_job_left limit out (job room list values) (job_fresh room list values)) none_left)

pub simplify_origins_marks_whole : (room limit : ℕ) (list values out : List ℕ) → Marks256 (simplify_origins_marks room limit list values out)
unfolding simplify_origins_marks
simplify_origins_marks_whole room limit list values out =
    left_whole (either_left (is_allowed limit) (simplified_origins_left (given false list (fresh room 0)) limit out (job room list values) (job_fresh room list values)) none_left)
