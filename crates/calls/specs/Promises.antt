-- What each public call promises, as one equation: answer, output bytes and work memory at return, for all texts and whatever the work memory
-- held. Definitions only.
use Rattle.std.specs.Prelude.{◌≡◌, ℕ, List, length, replicate, Result, Float}
use Rattle.complex.specs.declared.Complex.{Complex}
use Rattle.expression.specs.declared.refusal.Refusal.{Refusal}
use Rattle.calls.specs.declared.Simplified.{Simplified}
use Rattle.calls.specs.Lent.{Work, capacity, zeroed}
use Rattle.calls.specs.Marks.{evaluate_marks, simplify_marks, play_marks}
use Rattle.calls.specs.Origins.{substitute_origins, simplify_origins, simplify_origins_marks}
use Rattle.calls.specs.Calls.{evaluate_call, substitute_call, to_real_call, simplify_call, compile_call, play_call}

abbrev pub Evaluates : (list values : List ℕ) (w : Work) (r : Result Complex Refusal) (w' : Work) → Type 0
Evaluates list values w r w' = ◌≡◌ {A = Result Complex Refusal × Work} (r, w') (evaluate_call (capacity w) list values, zeroed w)

abbrev pub Substitutes : (list out : List ℕ) (w : Work) (r : Result ℕ Refusal) (out' : List ℕ) (w' : Work) → Type 0
Substitutes list out w r out' w' = ◌≡◌ {A = (Result ℕ Refusal × List ℕ) × Work} ((r, out'), w') (substitute_call (capacity w) list out, zeroed w)

abbrev pub ReadsReal : (list : List ℕ) (w : Work) (r : Result Float Refusal) (w' : Work) → Type 0
ReadsReal list w r w' = ◌≡◌ {A = Result Float Refusal × Work} (r, w') (to_real_call (capacity w) list, zeroed w)

abbrev pub Simplifies : (limit : ℕ) (list values out : List ℕ) (w : Work) (r : Result Simplified Refusal) (out' : List ℕ) (w' : Work) → Type 0
Simplifies limit list values out w r out' w' = ◌≡◌ {A = (Result Simplified Refusal × List ℕ) × Work} ((r, out'), w') (simplify_call (capacity w) limit list values out, zeroed w)

abbrev pub Compiles : (list out : List ℕ) (w : Work) (r : Result ℕ Refusal) (out' : List ℕ) (w' : Work) → Type 0
Compiles list out w r out' w' = ◌≡◌ {A = (Result ℕ Refusal × List ℕ) × Work} ((r, out'), w') (compile_call (capacity w) list out, zeroed w)

-- the work memory of playing is the table alone
abbrev pub Plays : (tape values table : List ℕ) (r : Result Complex Refusal) (table' : List ℕ) → Type 0
Plays tape values table r table' = ◌≡◌ {A = Result Complex Refusal × List ℕ} (r, table') (play_call tape values, replicate (length table) 0)

-- ---- the same with the marks of the t rows that were used, which are always written whole

abbrev pub EvaluatesMarked : (list values : List ℕ) (w : Work) (r : Result Complex Refusal) (marks : List ℕ) (w' : Work) → Type 0
EvaluatesMarked list values w r marks w' = ◌≡◌ {A = (Result Complex Refusal × List ℕ) × Work} ((r, marks), w') ((evaluate_call (capacity w) list values, evaluate_marks (capacity w) list values), zeroed w)

abbrev pub SimplifiesMarked : (limit : ℕ) (list values out : List ℕ) (w : Work) (r : Result Simplified Refusal) (marks out' : List ℕ) (w' : Work) → Type 0
SimplifiesMarked limit list values out w r marks out' w' =
    ◌≡◌ {A = ((Result Simplified Refusal × List ℕ) × List ℕ) × Work} (((r, out'), marks), w')
    ((simplify_call (capacity w) limit list values out, simplify_marks (capacity w) limit list values out), zeroed w)

abbrev pub PlaysMarked : (tape values table : List ℕ) (r : Result Complex Refusal) (marks table' : List ℕ) → Type 0
PlaysMarked tape values table r marks table' =
    ◌≡◌ {A = (Result Complex Refusal × List ℕ) × List ℕ} ((r, marks), table') ((play_call tape values, play_marks tape values), replicate (length table) 0)

-- ---- the same with origins in the listing

abbrev pub SubstitutesOrigins : (list out : List ℕ) (w : Work) (r : Result ℕ Refusal) (out' : List ℕ) (w' : Work) → Type 0
SubstitutesOrigins list out w r out' w' = ◌≡◌ {A = (Result ℕ Refusal × List ℕ) × Work} ((r, out'), w') (substitute_origins (capacity w) list out, zeroed w)

abbrev pub SimplifiesOrigins : (limit : ℕ) (list values out : List ℕ) (w : Work) (r : Result Simplified Refusal) (marks out' : List ℕ) (w' : Work) → Type 0
SimplifiesOrigins limit list values out w r marks out' w' =
    ◌≡◌ {A = ((Result Simplified Refusal × List ℕ) × List ℕ) × Work} (((r, out'), marks), w')
    ((simplify_origins (capacity w) limit list values out, simplify_origins_marks (capacity w) limit list values out), zeroed w)
