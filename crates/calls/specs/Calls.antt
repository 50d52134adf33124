-- The public calls, on bytes: the answer and the output for all texts, with the refusals in 01's order. Definitions only.
use Rattle.std.specs.Prelude.{ℕ, List, true, false, cond, Result, Ok, Err, Float}
use Rattle.complex.specs.declared.Complex.{Complex}
use Rattle.expression.specs.declared.refusal.Refusal.{Refusal}
use Rattle.expression.specs.Trees.{Tree}
use Rattle.store.specs.Storing as Storing
use Rattle.store.specs.Storing.{State, state, Answer, fresh}
use Rattle.text.specs.Lines as Lines
use Rattle.text.specs.Lines.{Whole}
use Rattle.listing.specs.Listings as Listings
use Rattle.listing.specs.Listings.{Listing, Swap, accepted, listing}
use Rattle.writing.specs.Order.{written}
use Rattle.sheet.specs.Rows.{Rows, sheet}
use Rattle.evaluation.specs.declared.Evaluation.{Evaluation}
use Rattle.evaluation.specs.Evaluating.{evaluate}
use Rattle.substitution.specs.Substituting.{substitute}
use Rattle.evaluation.specs.Reals.{to_real}
use Rattle.tasks.specs.Tasks.{is_allowed}
use Rattle.simplification.specs.Simplifying.{simplify}
use Rattle.tape.specs.Tapes.{compiled, check}
use Rattle.tape.specs.Playing.{played}
use Rattle.calls.specs.declared.Simplified.{Simplified}

-- ---- the texts: "listing line by line", then "sheet line by line"

-- what a listing gives to a call that takes no sheet; a refusal ends it
unfoldable pub after_listing : {A : Type 0} → (Refusal → A) → Listing → (Tree → List Swap → State → A) → A
after_listing refuse (accepted root swaps store) next = next root swaps store
after_listing refuse (Listings.refused why) next = refuse why

-- a listing and a sheet
pub data Job : Type 0 where
  ready : (root : Tree) (store : State) (rows : Rows) → Job
  refused : Refusal → Job

unfoldable pub with_sheet : Tree → State → Whole Rows Refusal → Job
with_sheet root store (Lines.read rows) = ready root store rows
with_sheet root store (Lines.refused why) = refused why

unfoldable pub job : (room : ℕ) (list values : List ℕ) → Job
job room list values = after_listing refused (listing false list (fresh room 0)) λ root swaps store. with_sheet root store (sheet values)

-- ---- the result: "2 for a result", then 13; a refusal leaves the output as it was

unfoldable pub written_answer : (out : List ℕ) → Answer → Result ℕ Refusal × List ℕ
written_answer out (Storing.gives t store) = written t out
written_answer out (Storing.refused why s) = (Err why, out)

-- ---- the calls, with room for so many nodes

-- evaluating: a value, or 9, or 10
unfoldable pub evaluated : Evaluation → Result Complex Refusal
evaluated (Evaluation.Value z) = Ok z
evaluated Evaluation.Incomplete = Err Refusal.Incomplete
evaluated (Evaluation.Need operation x y) = Err (Refusal.Need operation x y)

unfoldable pub evaluate_job : Job → Result Complex Refusal
evaluate_job (ready root store rows) = evaluated (evaluate rows root)
evaluate_job (refused why) = Err why

abbrev pub evaluate_call : (room : ℕ) (list values : List ℕ) → Result Complex Refusal
evaluate_call room list values = evaluate_job (job room list values)

-- substituting takes no sheet
unfoldable pub substitute_call : (room : ℕ) (list out : List ℕ) → Result ℕ Refusal × List ℕ
substitute_call room list out =
    after_listing (λ why. (Err why, out)) (listing true list (fresh room 0)) λ root swaps store.
    written_answer out (substitute swaps root store)

-- reading as a real takes none either
unfoldable pub to_real_call : (room : ℕ) (list : List ℕ) → Result Float Refusal
to_real_call room list = after_listing Err (listing false list (fresh room 0)) λ root swaps store. to_real root

-- simplifying: "The answer carries the number of simplify calls made", and the length written
unfoldable pub with_calls : (calls : ℕ) → Result ℕ Refusal → Result Simplified Refusal
with_calls calls (Ok bytes) = Ok (record { bytes = bytes; calls = calls })
with_calls calls (Err why) = Err why

unfoldable pub calls_in : Answer → ℕ
calls_in (Storing.gives t (state room stored kept tally)) = tally.calls
calls_in (Storing.refused why s) = 0

abbrev pub simplified_answer : (out : List ℕ) → Answer → Result Simplified Refusal × List ℕ
simplified_answer out answer = (with_calls (calls_in answer) (written_answer out answer).0, (written_answer out answer).1)

unfoldable pub simplify_job : (limit : ℕ) (out : List ℕ) → Job → Result Simplified Refusal × List ℕ
simplify_job limit out (ready root store rows) = simplified_answer out (simplify rows limit root store)
simplify_job limit out (refused why) = (Err why, out)

-- "Order: limit; listing line by line [...]; sheet line by line [...]; the operation in its running order; 2 for a result; 14; 13": simplifying has
-- no tape, and no 14
unfoldable pub simplify_call : (room limit : ℕ) (list values out : List ℕ) → Result Simplified Refusal × List ℕ
simplify_call room limit list values out = cond (is_allowed limit) (simplify_job limit out (job room list values)) (Err Refusal.BadLimit, out)

-- compiling takes no sheet: the listing's refusals, then 14, then 13
unfoldable pub compile_call : (room : ℕ) (list out : List ℕ) → Result ℕ Refusal × List ℕ
compile_call room list out =
    after_listing (λ why. (Err why, out)) (listing false list (fresh room 0)) λ root swaps store.
    compiled root out

-- playing needs no store: the tape, then the sheet, then a value, or 9, or 10
unfoldable pub play_sheet : (tape : List ℕ) → Whole Rows Refusal → Result Complex Refusal
play_sheet tape (Lines.read rows) = evaluated (played rows tape)
play_sheet tape (Lines.refused why) = Err why

-- "15 BAD_TAPE: tape unsound", with the "first bad step"; "The tape is checked before the sheet is read"
unfoldable pub play_checked : Result (Unit {0}) Refusal → (tape values : List ℕ) → Result Complex Refusal
play_checked (Ok u) tape values = play_sheet tape (sheet values)
play_checked (Err why) tape values = Err why

abbrev pub play_call : (tape values : List ℕ) → Result Complex Refusal
play_call tape values = play_checked (check tape) tape values
