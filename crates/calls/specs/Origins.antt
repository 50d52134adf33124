-- The calls that write a listing, with origins: the answer, the output and the marks for all texts. Definitions only; they differ from those of the
-- pages Calls and Marks in what is written alone, and in 13, which is that of the bytes that would be written.
use Rattle.std.specs.Prelude.{ℕ, List, true, false, cond, Result, Err}
use Rattle.memory.specs.Marks.{no_marks}
use Rattle.expression.specs.declared.refusal.Refusal.{Refusal}
use Rattle.expression.specs.Trees.{Tree}
use Rattle.store.specs.Storing as Storing
use Rattle.store.specs.Storing.{Answer, fresh}
use Rattle.listing.specs.Listings.{listing, given}
use Rattle.writing.specs.Origins.{written_traced}
use Rattle.substitution.specs.Substituting.{substitute}
use Rattle.tasks.specs.Tasks.{is_allowed}
use Rattle.simplification.specs.Simplifying.{simplify}
use Rattle.calls.specs.declared.Simplified.{Simplified}
use Rattle.calls.specs.Calls.{Job, ready, refused, job, after_listing, with_calls, calls_in}
use Rattle.calls.specs.Marks.{marks_in, shown}

-- what was built, as a listing with origins; `lines` are the trees of the lines that the call was given
unfoldable pub traced_answer : (lines : List Tree) (out : List ℕ) → Answer → Result ℕ Refusal × List ℕ
traced_answer lines out (Storing.gives t store) = written_traced lines t out
traced_answer lines out (Storing.refused why s) = (Err why, out)

-- ---- substituting

unfoldable pub substitute_origins : (room : ℕ) (list out : List ℕ) → Result ℕ Refusal × List ℕ
substitute_origins room list out =
    after_listing (λ why. (Err why, out)) (listing true list (fresh room 0)) λ root swaps store.
    traced_answer (given true list (fresh room 0)) out (substitute swaps root store)

-- ---- simplifying, and the rows that it used

abbrev pub traced_simplified : (lines : List Tree) (out : List ℕ) → Answer → Result Simplified Refusal × List ℕ
traced_simplified lines out answer = (with_calls (calls_in answer) (traced_answer lines out answer).0, (traced_answer lines out answer).1)

unfoldable pub traced_job : (lines : List Tree) (limit : ℕ) (out : List ℕ) → Job → Result Simplified Refusal × List ℕ
traced_job lines limit out (ready root store rows) = traced_simplified lines out (simplify rows limit root store)
traced_job lines limit out (refused why) = (Err why, out)

unfoldable pub simplify_origins : (room limit : ℕ) (list values out : List ℕ) → Result Simplified Refusal × List ℕ
simplify_origins room limit list values out =
    cond (is_allowed limit) (traced_job (given false list (fresh room 0)) limit out (job room list values)) (Err Refusal.BadLimit, out)

unfoldable pub traced_job_marks : (lines : List Tree) (limit : ℕ) (out : List ℕ) → Job → List ℕ
traced_job_marks lines limit out (ready root store rows) = shown (traced_simplified lines out (simplify rows limit root store)).0 (marks_in (simplify rows limit root store))
traced_job_marks lines limit out (refused why) = no_marks

unfoldable pub simplify_origins_marks : (room limit : ℕ) (list values out : List ℕ) → List ℕ
simplify_origins_marks room limit list values out =
    cond (is_allowed limit) (traced_job_marks (given false list (fresh room 0)) limit out (job room list values)) no_marks
