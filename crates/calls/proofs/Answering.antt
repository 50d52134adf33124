-- What the public calls answer, for all inputs: a value, or a refusal by a number from 1 to 15, with which the output is as it was. Assumes nothing.
use mathlib.Core.Path.{◌≡◌, refl, sym, subst}
use mathlib.Core.Bool.{Bool, true, false, cond}
use mathlib.Core.List.{List}
use Prim.Native.Nat.{ℕ, suc, ◌≤◌}
use native.Mathlib.Omega.{arith}
use lib.Dec.{ltb}
use lib.ListN.{length}
use Rattle.std.specs.Prelude.{Result, Ok, Err, Float}
use Rattle.complex.specs.declared.Complex.{Complex}
use Rattle.expression.specs.declared.refusal.Refusal.{Refusal}
use Rattle.expression.specs.Refusals.{number_of}
use Rattle.expression.specs.Trees.{Tree, number, pi, variable, cell, leaf, function_call, prefixed, infixed, size, depth}
use Rattle.expression.specs.Limits.{largest, deepest}
use Rattle.store.specs.Storing as Storing
use Rattle.store.specs.Storing.{State, state, Answer, gives, and_then, among, intern, fresh}
use Rattle.text.specs.Lines as Lines
use Rattle.text.specs.Lines.{Whole}
use Rattle.listing.specs.Listings as Listings
use Rattle.listing.specs.Listings.{Listing, Swap, accepted, listing}
use Rattle.writing.specs.Order.{order, text_of, written}
use Rattle.sheet.specs.Rows.{Rows, sheet}
use Rattle.evaluation.specs.declared.Evaluation.{Evaluation}
use Rattle.evaluation.specs.Evaluating.{evaluate}
use Rattle.evaluation.specs.Reals.{small, real_part, to_real}
use Rattle.substitution.specs.Substituting.{substitute}
use Rattle.tasks.specs.Tasks.{is_allowed}
use Rattle.simplification.specs.Simplifying.{simplify}
use Rattle.simplification.proofs.Inherited.{SixToNine, six_to_nine}
use Rattle.tape.specs.Tapes.{most_steps, tape, compiled}
use Rattle.calls.specs.declared.Simplified.{Simplified}
use Rattle.calls.specs.Calls as Calls
use Rattle.calls.specs.Calls.{Job, ready, after_listing, job, written_answer, with_calls, calls_in, evaluated, evaluate_job, evaluate_call, substitute_call, to_real_call, simplify_job, simplify_call, compile_call, play_call}
use Rattle.calls.proofs.Lining.{WholeHas}
use Rattle.calls.proofs.Refusing.{refusal_some, OfSheet, listing_most, sheet_most, job_most, ListingBy, listing_numbers, WholeBy, sheet_numbers, JobBy, job_numbers}
use Rattle.calls.proofs.TapeBytes.{FromAnywhere, refused_first, plays, Answered, sheet_refused, value, need, incomplete, from_anywhere}

-- one of the fifteen of 01's table
abbrev pub Numbered : Refusal → Type 0
Numbered why = (1 ≤ number_of why) × (number_of why ≤ 15)

-- a value, or a numbered refusal
abbrev pub EvaluatedSo : Result Complex Refusal → Type 0
EvaluatedSo (Ok z) = Unit {0}
EvaluatedSo (Err why) = Numbered why

abbrev pub RealSo : Result Float Refusal → Type 0
RealSo (Ok x) = Unit {0}
RealSo (Err why) = Numbered why

-- bytes that were written, or a numbered refusal that leaves the output as it was
abbrev pub WrittenSo : (out out' : List ℕ) → Result ℕ Refusal → Type 0
WrittenSo out out' (Ok bytes) = Unit {0}
WrittenSo out out' (Err why) = Numbered why × (out' ≡ out)

abbrev pub SimplifiedSo : (out out' : List ℕ) → Result Simplified Refusal → Type 0
SimplifiedSo out out' (Ok a) = Unit {0}
SimplifiedSo out out' (Err why) = Numbered why × (out' ≡ out)

-- the least number is 1 for each, and the most is that of the part that refuses
by_most : (why : Refusal) → number_of why ≤ 15 → Numbered why
by_most why h = ((refusal_some why).0, h)

abbrev So : (out : List ℕ) → Result ℕ Refusal × List ℕ → Type 0
So out x = WrittenSo out x.1 x.0

if_so : (out : List ℕ) (b : Bool) (x y : Result ℕ Refusal × List ℕ) → So out x → So out y → So out (cond b x y)
if_so out true x y p q = p
if_so out false x y p q = q

written_so : (t : Tree) (out : List ℕ) → So out (written t out)
unfolding written
written_so t out =
    if_so out (ltb 1024 (length (order t))) _ _ (by_most (Refusal.LongList 0) (omega arith), refl)
    (if_so out (ltb (length out) (length (text_of t))) _ _ (by_most Refusal.OutRoom (omega arith), refl) tt)

compiled_so : (t : Tree) (out : List ℕ) → So out (compiled t out)
unfolding compiled
compiled_so t out =
    if_so out (ltb most_steps (size t)) _ _ (by_most Refusal.LongTape (omega arith), refl)
    (if_so out (ltb (length out) (length (tape t))) _ _ (by_most Refusal.OutRoom (omega arith), refl) tt)

-- what builds is refused by at most 9
abbrev pub AtMost9 : Answer → Type 0
AtMost9 (gives t s) = Unit {0}
AtMost9 (Storing.refused why s) = number_of why ≤ 9

answer_so : (out : List ℕ) (a : Answer) → AtMost9 a → So out (written_answer out a)
unfolding written_answer
answer_so out (gives t s) h = written_so t out
answer_so out (Storing.refused why s) h = (by_most why (omega (arith, h)), refl)

-- ---- evaluating, reading as a real

evaluation_so : (e : Evaluation) → EvaluatedSo (evaluated e)
unfolding evaluated
evaluation_so (Evaluation.Value z) = tt
evaluation_so Evaluation.Incomplete = by_most Refusal.Incomplete (omega arith)
evaluation_so (Evaluation.Need operation x y) = by_most (Refusal.Need operation x y) (omega arith)

job_so : (j : Job) → JobBy j → EvaluatedSo (evaluate_job j)
unfolding evaluate_job JobBy
job_so (ready root store rows) h = evaluation_so (evaluate rows root)
job_so (Calls.refused why) h = by_most why (omega (arith, job_most h))

pub evaluate_call_so : (room : ℕ) (list values : List ℕ) → EvaluatedSo (evaluate_call room list values)
evaluate_call_so room list values = job_so (job room list values) (job_numbers room list values)

real_if : (b : Bool) (x y : Result Float Refusal) → RealSo x → RealSo y → RealSo (cond b x y)
real_if true x y p q = p
real_if false x y p q = q

real_so : (t : Tree) → RealSo (to_real t)
unfolding to_real real_part
real_so (leaf (number z)) = real_if (small z.im) _ _ tt (by_most Refusal.NotReal (omega arith))
real_so (leaf pi) = tt
real_so (leaf (variable v)) = by_most Refusal.NotANumber (omega arith)
real_so (leaf (cell region index)) = by_most Refusal.NotANumber (omega arith)
real_so (function_call f t) = by_most Refusal.NotANumber (omega arith)
real_so (prefixed o t) = by_most Refusal.NotANumber (omega arith)
real_so (infixed o l r) = by_most Refusal.NotANumber (omega arith)

pub real_call_so : (room : ℕ) (list : List ℕ) → RealSo (to_real_call room list)
unfolding to_real_call after_listing ListingBy
real_call_so room list = go (listing false list (fresh room 0)) (listing_numbers false list (fresh room 0))
  where
    go : (l : Listing) → ListingBy l → RealSo (after_listing Err l λ root swaps store. to_real root)
    go (accepted root swaps store) h = real_so root
    go (Listings.refused why) h = by_most why (omega (arith, listing_most h))

-- ---- substituting, compiling

if_at_most : (b : Bool) (x y : Answer) → AtMost9 x → AtMost9 y → AtMost9 (cond b x y)
if_at_most true x y p q = p
if_at_most false x y p q = q

stores : (t : Tree) (s : State) → AtMost9 (intern t s)
unfolding intern
stores t (state room stored kept tally) =
    if_at_most (among stored t) _ _ tt
    (if_at_most (ltb largest (size t)) _ _ (omega arith)
    (if_at_most (ltb deepest (depth t)) _ _ (omega arith)
    (if_at_most (ltb (length stored) room) _ _ tt (omega arith))))

then_at_most : (a : Answer) (f : Tree → State → Answer) → AtMost9 a → ((t : Tree) (s : State) → AtMost9 (f t s)) → AtMost9 (and_then a f)
unfolding and_then
then_at_most (gives t s) f h g = g t s
then_at_most (Storing.refused why s) f h g = h

pub substitutes : (swaps : List Swap) (t : Tree) (s : State) → AtMost9 (substitute swaps t s)
unfolding substitute
substitutes swaps (leaf l) s = tt
substitutes swaps (function_call f t) s = then_at_most (substitute swaps t s) _ (substitutes swaps t s) λ t s. stores (function_call f t) s
substitutes swaps (prefixed o t) s = then_at_most (substitute swaps t s) _ (substitutes swaps t s) λ t s. stores (prefixed o t) s
substitutes swaps (infixed o l r) s =
    then_at_most (substitute swaps l s) _ (substitutes swaps l s) λ l s. then_at_most (substitute swaps r s) _ (substitutes swaps r s) λ r s. stores (infixed o l r) s

-- a call that takes no sheet
listing_so : (out : List ℕ) (l : Listing) (next : Tree → List Swap → State → Result ℕ Refusal × List ℕ) → ListingBy l
    → ((root : Tree) (swaps : List Swap) (store : State) → So out (next root swaps store)) → So out (after_listing (λ why. (Err why, out)) l next)
unfolding after_listing ListingBy
listing_so out (accepted root swaps store) next h f = f root swaps store
listing_so out (Listings.refused why) next h f = (by_most why (omega (arith, listing_most h)), refl)

pub substitute_call_so : (room : ℕ) (list out : List ℕ) → So out (substitute_call room list out)
unfolding substitute_call
substitute_call_so room list out =
    listing_so out (listing true list (fresh room 0)) _ (listing_numbers true list (fresh room 0)) λ root swaps store. answer_so out (substitute swaps root store) (substitutes swaps root store)

pub compile_call_so : (room : ℕ) (list out : List ℕ) → So out (compile_call room list out)
unfolding compile_call
compile_call_so room list out =
    listing_so out (listing false list (fresh room 0)) _ (listing_numbers false list (fresh room 0)) λ root swaps store. compiled_so root out

-- ---- simplifying

with_calls_so : (out out' : List ℕ) (calls : ℕ) (r : Result ℕ Refusal) → WrittenSo out out' r → SimplifiedSo out out' (with_calls calls r)
unfolding with_calls
with_calls_so out out' calls (Ok bytes) h = tt
with_calls_so out out' calls (Err why) h = h

pub six_to_nine_so : (a : Answer) → SixToNine a → AtMost9 a
six_to_nine_so (gives t s) h = tt
six_to_nine_so (Storing.refused why s) h = h.1

simplify_job_so : (limit : ℕ) (out : List ℕ) (j : Job) → JobBy j → SimplifiedSo out (simplify_job limit out j).1 (simplify_job limit out j).0
unfolding simplify_job JobBy
simplify_job_so limit out (ready root store rows) h =
    let a = simplify rows limit root store in
    with_calls_so out (written_answer out a).1 (calls_in a) (written_answer out a).0 (answer_so out a (six_to_nine_so a (six_to_nine suc rows limit root store)))
simplify_job_so limit out (Calls.refused why) h = (by_most why (omega (arith, job_most h)), refl)

pub simplify_call_so : (room limit : ℕ) (list values out : List ℕ) → SimplifiedSo out (simplify_call room limit list values out).1 (simplify_call room limit list values out).0
unfolding simplify_call
simplify_call_so room limit list values out = go (is_allowed limit)
  where
    go : (b : Bool) → SimplifiedSo out (cond b (simplify_job limit out (job room list values)) (Err Refusal.BadLimit, out)).1 (cond b (simplify_job limit out (job room list values)) (Err Refusal.BadLimit, out)).0
    go true = simplify_job_so limit out (job room list values) (job_numbers room list values)
    go false = (by_most Refusal.BadLimit (omega arith), refl)

-- ---- playing

sheet_number : (w : Whole Rows Refusal) → WholeBy OfSheet w → {why : Refusal} → w ≡ Lines.refused why → number_of why ≤ 4
unfolding WholeHas
sheet_number w h e = sheet_most (subst (WholeBy OfSheet) e h)

pub play_call_so : (tape values : List ℕ) → EvaluatedSo (play_call tape values)
play_call_so tape values = go (from_anywhere tape values)
  where
    answered : Answered tape values → EvaluatedSo (play_call tape values)
    answered (sheet_refused why s e) = subst EvaluatedSo (sym e) (by_most why (omega (arith, sheet_number (sheet values) (sheet_numbers values) s)))
    answered (value rows z s r e) = subst EvaluatedSo (sym e) tt
    answered (need rows operation x y s r e) = subst EvaluatedSo (sym e) (by_most (Refusal.Need operation x y) (omega arith))
    answered (incomplete rows s r e) = subst EvaluatedSo (sym e) (by_most Refusal.Incomplete (omega arith))

    go : FromAnywhere tape values → EvaluatedSo (play_call tape values)
    go (refused_first step c e) = subst EvaluatedSo (sym e) (by_most (Refusal.BadTape step) (omega arith))
    go (plays c f a) = answered a
