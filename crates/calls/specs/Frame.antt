-- What the steps of a call ensure. Only connecting: what the calls promise is on the page Promises.
use Rattle.std.specs.Prelude.{◌≡◌, ℕ, ◌≤◌, ◌<◌, List, Bool, true, false, Result, IfOk, length, get_or, Ok, Err}
use Rattle.memory.specs.Layout.{desk_words}
use Rattle.memory.specs.Marks.{no_marks}
use Rattle.store.specs.Memory.{room}
use Rattle.store.specs.declared.desk.Refused.{Refused}
use Rattle.store.specs.Desk.{count, marks_on}
use Rattle.complex.specs.declared.Complex.{Complex}
use Rattle.expression.specs.declared.refusal.Refusal.{Refusal}
use Rattle.expression.specs.Trees.{Tree}
use Rattle.store.specs.Storing.{Answer, fresh}
use Rattle.store.specs.Tracing.{Traced}
use Rattle.listing.specs.Listings.{given}
use Rattle.calls.specs.Origins.{traced_answer, substitute_origins, simplify_origins, simplify_origins_marks}
use Rattle.store.specs.Held.{Lent, tree_in, state_in, Sound, seen}
use Rattle.sheet.specs.Table.{rows_of, Held}
use Rattle.calls.specs.declared.Simplified.{Simplified}
use Rattle.calls.specs.declared.Job.{Job}
use Rattle.calls.specs.Lent.{Work, capacity, zeroed}
use Rattle.calls.specs.Calls as Calls
use Rattle.calls.specs.Calls.{ready, job, written_answer, evaluate_call, substitute_call, simplify_call, compile_call, play_call}
use Rattle.calls.specs.Marks.{evaluate_marks, play_marks, is_shown, simplify_marks}

-- ---- a job that was read

abbrev pub job_seen : (l : Lent) (table : List ℕ) → Result Job Refusal → Calls.Job
job_seen l table (Ok j) = ready (tree_in l j.root) (state_in l) (rows_of table j.counts)
job_seen l table (Err why) = Calls.refused why

abbrev pub JobAfter : (l : Lent) (table : List ℕ) → Result Job Refusal → Type 0
JobAfter l table (Ok j) = (j.root < count l.desk) × Sound l × Held table j.counts
JobAfter l table (Err why) = Unit {0}

-- and the nodes have the origins that these lines give them
abbrev pub JobTraced : (lines : List Tree) (l : Lent) → Result Job Refusal → Type 0
JobTraced lines l (Ok j) = Traced lines l
JobTraced lines l (Err why) = Unit {0}

pub record ReadsJob (list values : List ℕ) (r : Result Job Refusal) (l l' : Lent) (table : List ℕ) : Type 0 where
  pub answer : job_seen l' table r ≡ job (room l.rows) list values
  pub after : JobAfter l' table r
  pub traced : JobTraced (given false list (fresh (room l.rows) 0)) l' r

-- ---- a result that is written

-- with origins or without
unfoldable pub written_as : (traced : Bool) (lines : List Tree) (out : List ℕ) → Answer → Result ℕ Refusal × List ℕ
written_as true lines out answer = traced_answer lines out answer
written_as false lines out answer = written_answer out answer

unfoldable pub substitute_as : (traced : Bool) (room : ℕ) (list out : List ℕ) → Result ℕ Refusal × List ℕ
substitute_as true room list out = substitute_origins room list out
substitute_as false room list out = substitute_call room list out

unfoldable pub simplify_as : (traced : Bool) (room limit : ℕ) (list values out : List ℕ) → Result Simplified Refusal × List ℕ
simplify_as true room limit list values out = simplify_origins room limit list values out
simplify_as false room limit list values out = simplify_call room limit list values out

unfoldable pub marks_as : (traced : Bool) (room limit : ℕ) (list values out : List ℕ) → List ℕ
marks_as true room limit list values out = simplify_origins_marks room limit list values out
marks_as false room limit list values out = simplify_marks room limit list values out

abbrev pub WritesAnswer : (traced : Bool) (l : Lent) (built : Result ℕ Refused) (r : Result ℕ Refusal) (out out' : List ℕ) → Type 0
WritesAnswer traced l built r out out' =
    (lines : List Tree) → Sound l → Traced lines l → IfOk built (λ k. k < count l.desk) → (r, out') ≡ written_as traced lines out (seen built l)

-- ---- what a call has done before its memory is cleared

-- where nothing was marked before
abbrev pub EvaluatesTexts : (list values : List ℕ) (w : Work) (r : Result Complex Refusal) (marks marks' : List ℕ) → Type 0
EvaluatesTexts list values w r marks marks' = marks ≡ no_marks → ◌≡◌ {A = Result Complex Refusal × List ℕ} (r, marks') (evaluate_call (capacity w) list values, evaluate_marks (capacity w) list values)

abbrev pub SubstitutesTexts : (traced : Bool) (list out : List ℕ) (w : Work) (r : Result ℕ Refusal) (out' : List ℕ) → Type 0
SubstitutesTexts traced list out w r out' = ◌≡◌ {A = Result ℕ Refusal × List ℕ} (r, out') (substitute_as traced (capacity w) list out)

-- the desk has marks, each 0 or 1
pub record Marked (desk : List ℕ) : Type 0 where
  pub long : length desk ≡ desk_words
  pub few : (j : ℕ) → get_or (marks_on desk) j 0 ≤ 1

-- these are they
abbrev pub Copies : (desk marks : List ℕ) → Type 0
Copies desk marks = Marked desk → marks ≡ marks_on desk

pub record Shown (r : Result Simplified Refusal) (desk marks : List ℕ) : Type 0 where
  pub copied : is_shown r ≡ true → Copies desk marks
  pub none : is_shown r ≡ false → marks ≡ no_marks

pub record SimplifiesTexts (traced : Bool) (limit : ℕ) (list values out : List ℕ) (w : Work) (r : Result Simplified Refusal) (out' desk' : List ℕ) : Type 0 where
  pub answer : ◌≡◌ {A = Result Simplified Refusal × List ℕ} (r, out') (simplify_as traced (capacity w) limit list values out)
  pub marks : is_shown r ≡ true → Marked desk' × (marks_on desk' ≡ marks_as traced (capacity w) limit list values out)
  pub none : is_shown r ≡ false → marks_as traced (capacity w) limit list values out ≡ no_marks

abbrev pub CompilesText : (list out : List ℕ) (w : Work) (r : Result ℕ Refusal) (out' : List ℕ) → Type 0
CompilesText list out w r out' = ◌≡◌ {A = Result ℕ Refusal × List ℕ} (r, out') (compile_call (capacity w) list out)

abbrev pub PlaysTexts : (tape values : List ℕ) → Result Complex Refusal → (marks marks' : List ℕ) → Type 0
PlaysTexts tape values r marks marks' = marks ≡ no_marks → ◌≡◌ {A = Result Complex Refusal × List ℕ} (r, marks') (play_call tape values, play_marks tape values)

-- ---- a call that writes a listing, with origins in it or without

abbrev pub SubstitutesAs : (traced : Bool) (list out : List ℕ) (w : Work) (r : Result ℕ Refusal) (out' : List ℕ) (w' : Work) → Type 0
SubstitutesAs traced list out w r out' w' = ◌≡◌ {A = (Result ℕ Refusal × List ℕ) × Work} ((r, out'), w') (substitute_as traced (capacity w) list out, zeroed w)

abbrev pub SimplifiesAs : (traced : Bool) (limit : ℕ) (list values out : List ℕ) (w : Work) (r : Result Simplified Refusal) (marks out' : List ℕ) (w' : Work) → Type 0
SimplifiesAs traced limit list values out w r marks out' w' =
    ◌≡◌ {A = ((Result Simplified Refusal × List ℕ) × List ℕ) × Work} (((r, out'), marks), w')
    ((simplify_as traced (capacity w) limit list values out, marks_as traced (capacity w) limit list values out), zeroed w)
