-- The marks of each call that takes a sheet: which t rows were used, for all texts. "zero after any refusal but NEED and INCOMPLETE, where they
-- show the rows used up to there". Definitions only; the answers stand on the page Calls, and nothing here bears on them.
use Rattle.std.specs.Prelude.{ℕ, List, Bool, true, cond, Result, Ok, Err}
use Rattle.memory.specs.Marks.{no_marks, marks_of}
use Rattle.expression.specs.declared.refusal.Refusal.{Refusal}
use Rattle.expression.specs.Refusals.{is_lack}
use Rattle.store.specs.Storing as Storing
use Rattle.store.specs.Storing.{state, Answer}
use Rattle.text.specs.Lines as Lines
use Rattle.text.specs.Lines.{Whole}
use Rattle.sheet.specs.Rows.{Rows, sheet}
use Rattle.evaluation.specs.Using.{used}
use Rattle.tasks.specs.Tasks.{is_allowed}
use Rattle.simplification.specs.Simplifying.{simplify}
use Rattle.tape.specs.Tapes.{check}
use Rattle.tape.specs.Using.{used_playing}
use Rattle.calls.specs.declared.Simplified.{Simplified}
use Rattle.calls.specs.Calls.{Job, ready, refused, job, simplified_answer}

-- ---- evaluating and playing: the rows used up to the first lack; a text that is refused uses none

unfoldable pub evaluate_job_marks : Job → List ℕ
evaluate_job_marks (ready root store rows) = marks_of (used rows root)
evaluate_job_marks (refused why) = no_marks

abbrev pub evaluate_marks : (room : ℕ) (list values : List ℕ) → List ℕ
evaluate_marks room list values = evaluate_job_marks (job room list values)

unfoldable pub play_sheet_marks : (tape : List ℕ) → Whole Rows Refusal → List ℕ
play_sheet_marks tape (Lines.read rows) = marks_of (used_playing rows tape)
play_sheet_marks tape (Lines.refused why) = no_marks

unfoldable pub play_checked_marks : Result (Unit {0}) Refusal → (tape values : List ℕ) → List ℕ
play_checked_marks (Ok u) tape values = play_sheet_marks tape (sheet values)
play_checked_marks (Err why) tape values = no_marks

abbrev pub play_marks : (tape values : List ℕ) → List ℕ
play_marks tape values = play_checked_marks (check tape) tape values

-- ---- simplifying: the rows found by every fold that was carried out; a result that is kept already adds none

unfoldable pub marks_in : Answer → List ℕ
marks_in (Storing.gives t (state room stored kept tally)) = tally.marks
marks_in (Storing.refused why (state room stored kept tally)) = tally.marks

-- shown after a success, and at a lack; a refusal by 6, 7 or 8, and one by 2 or 13 after simplifying, has none
unfoldable pub is_shown : Result Simplified Refusal → Bool
is_shown (Ok a) = true
is_shown (Err why) = is_lack why

unfoldable pub shown : Result Simplified Refusal → (marks : List ℕ) → List ℕ
shown r marks = cond (is_shown r) marks no_marks

unfoldable pub simplify_job_marks : (limit : ℕ) (out : List ℕ) → Job → List ℕ
simplify_job_marks limit out (ready root store rows) = shown (simplified_answer out (simplify rows limit root store)).0 (marks_in (simplify rows limit root store))
simplify_job_marks limit out (refused why) = no_marks

unfoldable pub simplify_marks : (room limit : ℕ) (list values out : List ℕ) → List ℕ
simplify_marks room limit list values out = cond (is_allowed limit) (simplify_job_marks limit out (job room list values)) no_marks
