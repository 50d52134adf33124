-- What the steps of a call make together: the texts, the operation, the result, and the memory. Assumes nothing.
use mathlib.Core.Path.{◌≡◌, refl, sym, ap, subst, ◌∙◌}
use Prim.Native.Nat.{ℕ, suc, ◌≤◌, ◌<◌, min}
use mathlib.Core.List.{List}
use mathlib.Core.Bool.{Bool, true, false, cond, ◌||◌, true≢false}
use native.Mathlib.Omega.{arith}
use borrow.Author.Tests.{leb-true, ne_eqb}
use lib.Dec.{eqb}
use lib.ListN.{length, get_or, replicate}
use Rattle.std.specs.Prelude.{Result, Ok, Err, Float}
use Rattle.complex.specs.declared.Complex.{Complex}
use Rattle.memory.specs.Layout.{desk_words}
use Rattle.memory.specs.Rows.{blank}
use Rattle.memory.specs.Marks as Marks
use Rattle.memory.specs.Marks.{no_marks, noted}
use Rattle.memory.proofs.Marks.{mark_small}
use Rattle.expression.specs.declared.refusal.Refusal.{Refusal}
use Rattle.expression.specs.Refusals.{number_of}
use Rattle.expression.specs.Trees.{Tree}
use Rattle.store.specs.Storing as Storing
use Rattle.store.specs.Storing.{State, state, Answer, fresh}
use Rattle.store.specs.Memory.{memory, room}
use Rattle.store.specs.declared.desk.Refused.{Refused}
use Rattle.store.specs.Desk.{count, calls_on, marks_on, refusal_on}
use Rattle.store.specs.Tracing.{Traced}
use Rattle.store.specs.Held.{Lent, lent, tree_in, state_in, Sound, Built, seen}
use Rattle.store.proofs.Rows.{room_is}
use Rattle.store.proofs.Tracing.{traced_step}
use Rattle.listing.specs.declared.Listed.{Listed}
use Rattle.listing.specs.Listings.{Swap, listing, given}
use Rattle.listing.specs.Tables.{Reads, Lists, swap_trees}
use Rattle.writing.specs.Ordering.{Writes, WritesTraced}
use Rattle.sheet.specs.declared.Counts.{Counts}
use Rattle.sheet.specs.Rows.{sheet}
use Rattle.sheet.specs.Table as Table
use Rattle.sheet.specs.Table.{rows_of, Held, held_by}
use Rattle.evaluation.specs.declared.Evaluation.{Evaluation}
use Rattle.evaluation.specs.Using.{used}
use Rattle.evaluation.specs.Run.{WorkedOut}
use Rattle.substitution.specs.Substituting.{substitute}
use Rattle.evaluation.specs.Reals.{to_real}
use Rattle.tasks.specs.Tasks.{is_allowed}
use Rattle.tasks.specs.Deciding.{one_more}
use Rattle.simplification.specs.Simplifying.{simplify_by, simplify}
use Rattle.simplification.proofs.Counting as Counting
use Rattle.simplification.proofs.Counting.{bound_to_ten}
use Rattle.simplification.proofs.Machine.{in_word, answer_in_word, machine_counts, small_in_word, Agreed, given as agreed, refusing, machine_agrees}
use Rattle.simplification.proofs.Marking as Marking
use Rattle.simplification.proofs.Marking.{marks_after, marks_grow}
use Rattle.calls.proofs.Results.{FreshJob, job_fresh}
use Rattle.calls.proofs.Refusing.{job_most, JobBy, job_numbers}
use Rattle.calls.specs.declared.Simplified.{Simplified}
use Rattle.calls.specs.declared.Job.{Job}
use Rattle.calls.specs.Lent.{Work, work, capacity, zeroed}
use Rattle.calls.specs.Calls as Calls
use Rattle.calls.specs.Calls.{after_listing, with_sheet, job, written_answer, evaluated, evaluate_job, evaluate_call, substitute_call, to_real_call, with_calls, calls_in, simplified_answer, simplify_job, simplify_call}
use Rattle.calls.specs.Marks.{evaluate_job_marks, evaluate_marks, marks_in, is_shown, shown, simplify_job_marks, simplify_marks}
use Rattle.calls.specs.Origins.{traced_answer, substitute_origins, traced_job, simplify_origins, traced_job_marks, simplify_origins_marks}
use Rattle.calls.specs.Frame.{ReadsJob, WritesAnswer, written_as, substitute_as, simplify_as, marks_as, Shown, SimplifiesTexts}

-- ---- the memory

pub clears : (store : List (List ℕ)) (desk table : List ℕ) {store' : List (List ℕ)} {desk' table' : List ℕ} → store' ≡ replicate (length store) blank
    → desk' ≡ replicate desk_words 0 → table' ≡ replicate (length table) 0 → work store' desk' table' ≡ zeroed (work store desk table)
unfolding zeroed
clears store desk table p q r = λ i. work (p i) (q i) (r i)

-- only the lengths matter
pub zeroed_alike : (w w' : Work) → length w.store ≡ length w'.store → length w.table ≡ length w'.table → zeroed w ≡ zeroed w'
unfolding zeroed
zeroed_alike w w' a b = λ i. work (replicate (a i) blank) (replicate desk_words 0) (replicate (b i) 0)

-- a call's answer, and the memory that it leaves
pub ends : {A : Type 0} {r want : A} {w₂ : Work} (w w₁ : Work) → r ≡ want → w₂ ≡ zeroed w₁ → zeroed w₁ ≡ zeroed w → ◌≡◌ {A = A × Work} (r, w₂) (want, zeroed w)
ends w w₁ p q e = λ i. (p i, (q ∙ e) i)

-- a call's answer for the room that rows give
pub in_room : {A : Type 0} {r : A} (store : List (List ℕ)) (want : ℕ → A) → r ≡ want (room (memory store)) → r ≡ want (min (length store) 4096)
in_room store want p = p ∙ ap want (sym (room_is store))

-- ---- the texts

module _ {substituting : Bool} {list : List ℕ} {listed : Result Listed Refusal} {l l₁ : Lent} {table : List ℕ} (p : Reads substituting list listed l l₁ table) where
  pub after_read : {A : Type 0} (refuse : Refusal → A) (next : Tree → List Swap → State → A) {a : Listed} → listed ≡ Ok a
      → next (tree_in l₁ a.root) (swap_trees l₁.rows table a.swaps) (state_in l₁) ≡ after_listing refuse (listing substituting list (fresh (room l.rows) 0)) next
  unfolding after_listing
  after_read refuse next told = ap (λ x. after_listing refuse x next) (rw told at p.answer)

  pub after_refused : {A : Type 0} (refuse : Refusal → A) (next : Tree → List Swap → State → A) {why : Refusal} → listed ≡ Err why
      → refuse why ≡ after_listing refuse (listing substituting list (fresh (room l.rows) 0)) next
  unfolding after_listing
  after_refused refuse next told = ap (λ x. after_listing refuse x next) (rw told at p.answer)

  pub lists_read : {a : Listed} → listed ≡ Ok a → (a.root < count l₁.desk) × (a.swaps ≤ 256) × Lists l₁ table 0 a.swaps
  lists_read told = rw told at p.after

  -- the nodes have the origins that the lines give them
  pub traced_read : {a : Listed} → listed ≡ Ok a → Traced (given substituting list (fresh (room l.rows) 0)) l₁
  traced_read told = rw told at p.traced

module _ {list : List ℕ} (values : List ℕ) {listed : Result Listed Refusal} {l l₁ : Lent} {table : List ℕ} (p : Reads false list listed l l₁ table) where
  pub job_refused : {table' : List ℕ} {why : Refusal} → listed ≡ Err why → ReadsJob list values (Err why) l l₁ table'
  unfolding job
  job_refused told = record { answer = after_refused p Calls.refused _ told; after = tt; traced = tt }

  module _ (table' : List ℕ) (found : Result Counts Refusal) {a : Listed} (told : listed ≡ Ok a) (q : (Table.seen table' found ≡ sheet values) × held_by table' found) where
    -- the definition's job, by what the sheet is
    job_is : with_sheet (tree_in l₁ a.root) (state_in l₁) (Table.seen table' found) ≡ job (room l.rows) list values
    unfolding job
    job_is = ap (with_sheet (tree_in l₁ a.root) (state_in l₁)) q.0 ∙ after_read p Calls.refused (λ root swaps store. with_sheet root store (sheet values)) told

    pub job_read : {counts : Counts} → found ≡ Ok counts → ReadsJob list values (Ok (record { root = a.root; counts = counts })) l l₁ table'
    unfolding with_sheet
    job_read e =
        let h = lists_read p told in
        record { answer = rw e at job_is; after = (h.0, h.2.sound, rw e at q.1); traced = traced_read p told }

    pub job_unread : {why : Refusal} → found ≡ Err why → ReadsJob list values (Err why) l l₁ table'
    unfolding with_sheet
    job_unread e = record { answer = rw e at job_is; after = tt; traced = tt }

-- ---- evaluating

module _ {list values : List ℕ} {j : Result Job Refusal} {l l₁ : Lent} {table : List ℕ} (p : ReadsJob list values j l l₁ table) where
  pub job_holds : {k : Job} → j ≡ Ok k → (k.root < count l₁.desk) × Sound l₁ × Held table k.counts
  job_holds told = rw told at p.after

  pub job_traced : {k : Job} → j ≡ Ok k → Traced (given false list (fresh (room l.rows) 0)) l₁
  job_traced told = rw told at p.traced

module _ (store : List (List ℕ)) {desk list values : List ℕ} {j : Result Job Refusal} {l₁ : Lent} {table : List ℕ} (p : ReadsJob list values j (lent store desk) l₁ table) where
  -- the answer and the marks that follow from a job
  from_read : {r : Result Complex Refusal × List ℕ} → (j : Calls.Job) → j ≡ job (room (memory store)) list values → r ≡ (evaluate_job j, evaluate_job_marks j)
      → r ≡ (evaluate_call (min (length store) 4096) list values, evaluate_marks (min (length store) 4096) list values)
  from_read j e q = in_room store (λ n. (evaluate_call n list values, evaluate_marks n list values)) (q ∙ ap (λ j. (evaluate_job j, evaluate_job_marks j)) e)

  pub evaluates : {k : Job} {v : Evaluation} {r : Result Complex Refusal} {marks marks' : List ℕ} → j ≡ Ok k → WorkedOut (rows_of table k.counts) (tree_in l₁ k.root) v marks marks'
      → r ≡ evaluated v → marks ≡ no_marks
      → ◌≡◌ {A = Result Complex Refusal × List ℕ} (r, marks') (evaluate_call (min (length store) 4096) list values, evaluate_marks (min (length store) 4096) list values)
  unfolding evaluate_job evaluate_job_marks
  evaluates {k} told q e z =
      from_read (Calls.ready (tree_in l₁ k.root) (state_in l₁) (rows_of table k.counts)) (rw told at p.answer)
      (λ i. ((e ∙ ap evaluated q.value) i, (q.marked ∙ ap (noted (used (rows_of table k.counts) (tree_in l₁ k.root))) z) i))

  pub evaluates_refused : {why : Refusal} {marks : List ℕ} → j ≡ Err why → marks ≡ no_marks
      → ◌≡◌ {A = Result Complex Refusal × List ℕ} (Err why, marks) (evaluate_call (min (length store) 4096) list values, evaluate_marks (min (length store) 4096) list values)
  unfolding evaluate_job evaluate_job_marks
  evaluates_refused {why} told z = from_read (Calls.refused why) (rw told at p.answer) (λ i. (Err why, z i))

-- ---- reading as a real

module _ (store : List (List ℕ)) {desk list : List ℕ} {listed : Result Listed Refusal} {l₁ : Lent} {table : List ℕ} (p : Reads false list listed (lent store desk) l₁ table) where
  pub reads_real : {a : Listed} {r : Result Float Refusal} → listed ≡ Ok a → r ≡ to_real (tree_in l₁ a.root) → r ≡ to_real_call (min (length store) 4096) list
  unfolding to_real_call
  reads_real told q = in_room store (λ n. to_real_call n list) (q ∙ after_read p Err (λ root swaps store. to_real root) told)

  pub reads_real_refused : {why : Refusal} → listed ≡ Err why → Err why ≡ to_real_call (min (length store) 4096) list
  unfolding to_real_call
  reads_real_refused told = in_room store (λ n. to_real_call n list) (after_refused p Err (λ root swaps store. to_real root) told)

-- ---- a result that is written

module _ (l : Lent) {built : Result ℕ Refused} (out : List ℕ) where
  pub writes_node : (traced : Bool) {root : ℕ} {r : Result ℕ Refusal} {out' : List ℕ} → built ≡ Ok root → traced ≡ false → Writes l.rows root r out out' → WritesAnswer traced l built r out out'
  unfolding written_as written_answer seen
  writes_node traced x e w = rw x λ lines h t inside. rw e (w _ h.holds inside)

  pub writes_traced_node : (traced : Bool) {root : ℕ} {r : Result ℕ Refusal} {out' : List ℕ} → built ≡ Ok root → traced ≡ true → WritesTraced l.rows root r out out' → WritesAnswer traced l built r out out'
  unfolding written_as traced_answer seen
  writes_traced_node traced x e w = rw x λ lines h t inside. rw e (w lines l.desk h t inside)

  pub writes_refusal : (traced : Bool) {refusal : Refused} {why : Refusal} → built ≡ Err refusal → why ≡ refusal_on l.desk → WritesAnswer traced l built (Err why) out out
  unfolding written_as written_answer traced_answer seen
  writes_refusal true x e = rw x λ lines h t inside. ap (λ why. (Err why, out)) e
  writes_refusal false x e = rw x λ lines h t inside. ap (λ why. (Err why, out)) e

-- ---- substituting

-- with origins or without, in one form
substitute_as_lem : (traced : Bool) (room : ℕ) (list out : List ℕ)
    → substitute_as traced room list out
    ≡ after_listing (λ why. (Err why, out)) (listing true list (fresh room 0)) (λ root swaps store. written_as traced (given true list (fresh room 0)) out (substitute swaps root store))
unfolding substitute_as substitute_call substitute_origins written_as
substitute_as_lem true room list out = refl
substitute_as_lem false room list out = refl

module _ (traced : Bool) (store : List (List ℕ)) {desk list : List ℕ} (out : List ℕ) {listed : Result Listed Refusal} {l₁ : Lent} {table : List ℕ} (p : Reads true list listed (lent store desk) l₁ table) where
  abbrev swapping : List Tree
  swapping = given true list (fresh (room (memory store)) 0)

  from_listing : Tree → List Swap → State → Result ℕ Refusal × List ℕ
  from_listing root swaps store = written_as traced swapping out (substitute swaps root store)

  pub substitutes : {a : Listed} {built : Result ℕ Refused} {l₂ : Lent} {r : Result ℕ Refusal} {out' : List ℕ} → listed ≡ Ok a
      → Built (substitute (swap_trees l₁.rows table a.swaps) (tree_in l₁ a.root) (state_in l₁)) built l₁ l₂
      → WritesAnswer traced l₂ built r out out' → ◌≡◌ {A = Result ℕ Refusal × List ℕ} (r, out') (substitute_as traced (min (length store) 4096) list out)
  unfolding from_listing
  substitutes told b w =
      in_room store (λ n. substitute_as traced n list out)
      (w swapping b.step.sound (traced_step (lists_read p told).2.sound (traced_read p told) b.step) b.inside ∙ ap (written_as traced swapping out) b.answer
      ∙ after_read p (λ why. (Err why, out)) from_listing told ∙ sym (substitute_as_lem traced (room (memory store)) list out))

  pub substitutes_refused : {why : Refusal} → listed ≡ Err why
      → ◌≡◌ {A = Result ℕ Refusal × List ℕ} (Err why, out) (substitute_as traced (min (length store) 4096) list out)
  unfolding from_listing
  substitutes_refused told =
      in_room store (λ n. substitute_as traced n list out)
      (after_refused p (λ why. (Err why, out)) from_listing told ∙ sym (substitute_as_lem traced (room (memory store)) list out))

-- ---- simplifying

-- an answer at which the marks are shown, and one at which they are not
pub shown_is : (r : Result Simplified Refusal) (marks : List ℕ) → is_shown r ≡ true → shown r marks ≡ marks
unfolding shown
shown_is r marks e = rw e refl

hidden_is : (r : Result Simplified Refusal) (marks : List ℕ) → is_shown r ≡ false → shown r marks ≡ no_marks
unfolding shown
hidden_is r marks e = rw e refl

pub simplifies_beyond : (traced : Bool) (w : Work) (limit : ℕ) (list values out desk : List ℕ) → is_allowed limit ≡ false
    → SimplifiesTexts traced limit list values out w (Err Refusal.BadLimit) out desk
unfolding simplify_as marks_as simplify_call simplify_marks simplify_origins simplify_origins_marks is_shown
simplifies_beyond true w limit list values out desk e = record { answer = rw e refl; marks = λ x. absurd (true≢false (sym x)); none = λ x. rw e refl }
simplifies_beyond false w limit list values out desk e = record { answer = rw e refl; marks = λ x. absurd (true≢false (sym x)); none = λ x. rw e refl }

-- with origins or without, in one form
abbrev simplified_as : (traced : Bool) (lines : List Tree) (out : List ℕ) → Answer → Result Simplified Refusal × List ℕ
simplified_as traced lines out answer = (with_calls (calls_in answer) (written_as traced lines out answer).0, (written_as traced lines out answer).1)

unfoldable job_as : (traced : Bool) (lines : List Tree) (limit : ℕ) (out : List ℕ) → Calls.Job → Result Simplified Refusal × List ℕ
job_as traced lines limit out (Calls.ready root store rows) = simplified_as traced lines out (simplify rows limit root store)
job_as traced lines limit out (Calls.refused why) = (Err why, out)

unfoldable job_marks_as : (traced : Bool) (lines : List Tree) (limit : ℕ) (out : List ℕ) → Calls.Job → List ℕ
job_marks_as traced lines limit out (Calls.ready root store rows) = shown (simplified_as traced lines out (simplify rows limit root store)).0 (marks_in (simplify rows limit root store))
job_marks_as traced lines limit out (Calls.refused why) = no_marks

job_as_lem : (traced : Bool) (lines : List Tree) (limit : ℕ) (out : List ℕ) (j : Calls.Job) → job_as traced lines limit out j ≡ cond traced (traced_job lines limit out j) (simplify_job limit out j)
unfolding job_as written_as traced_job simplify_job
job_as_lem true lines limit out (Calls.ready root store rows) = refl
job_as_lem true lines limit out (Calls.refused why) = refl
job_as_lem false lines limit out (Calls.ready root store rows) = refl
job_as_lem false lines limit out (Calls.refused why) = refl

job_marks_as_lem : (traced : Bool) (lines : List Tree) (limit : ℕ) (out : List ℕ) (j : Calls.Job) → job_marks_as traced lines limit out j ≡ cond traced (traced_job_marks lines limit out j) (simplify_job_marks limit out j)
unfolding job_marks_as written_as traced_job_marks simplify_job_marks
job_marks_as_lem true lines limit out (Calls.ready root store rows) = refl
job_marks_as_lem true lines limit out (Calls.refused why) = refl
job_marks_as_lem false lines limit out (Calls.ready root store rows) = refl
job_marks_as_lem false lines limit out (Calls.refused why) = refl

call_as : (traced : Bool) (room limit : ℕ) (list values out : List ℕ) → is_allowed limit ≡ true
    → job_as traced (given false list (fresh room 0)) limit out (job room list values) ≡ simplify_as traced room limit list values out
unfolding simplify_as simplify_call simplify_origins
call_as true room limit list values out e = rw e (job_as_lem true (given false list (fresh room 0)) limit out (job room list values))
call_as false room limit list values out e = rw e (job_as_lem false (given false list (fresh room 0)) limit out (job room list values))

marks_as_lem : (traced : Bool) (room limit : ℕ) (list values out : List ℕ) → is_allowed limit ≡ true
    → job_marks_as traced (given false list (fresh room 0)) limit out (job room list values) ≡ marks_as traced room limit list values out
unfolding marks_as simplify_marks simplify_origins_marks
marks_as_lem true room limit list values out e = rw e (job_marks_as_lem true (given false list (fresh room 0)) limit out (job room list values))
marks_as_lem false room limit list values out e = rw e (job_marks_as_lem false (given false list (fresh room 0)) limit out (job room list values))

-- the calls on the desk are those of the answer; a refusal names none
counted : (traced : Bool) (lines : List Tree) (l : Lent) (built : Result ℕ Refused) (out : List ℕ)
    → with_calls (calls_on l.desk) (written_as traced lines out (seen built l)).0 ≡ with_calls (calls_in (seen built l)) (written_as traced lines out (seen built l)).0
unfolding calls_in state_in written_as written_answer traced_answer with_calls seen
counted traced lines l (Ok k) out = refl
counted true lines l (Err e) out = refl
counted false lines l (Err e) out = refl

-- the marks on the desk are those of the answer, of a refusal too
marks_seen : (l : Lent) (built : Result ℕ Refused) → marks_on l.desk ≡ marks_in (seen built l)
unfolding marks_in state_in seen
marks_seen l (Ok k) = refl
marks_seen l (Err e) = refl

pub marks_after_lem : (a : Answer) → marks_in a ≡ marks_after a
unfolding marks_in marks_after Marking.marks_of
marks_after_lem (Storing.gives t (state room stored kept tally)) = refl
marks_after_lem (Storing.refused why (state room stored kept tally)) = refl

-- a machine's word has no part in them
marks_in_word : (a : Answer) → marks_after (answer_in_word a) ≡ marks_after a
unfolding marks_after Marking.marks_of answer_in_word in_word
marks_in_word (Storing.gives t (state room stored kept tally)) = refl
marks_in_word (Storing.refused why (state room stored kept tally)) = refl

same_answer : (traced : Bool) (lines : List Tree) (out : List ℕ) {a b : Answer} → Agreed a b → simplified_as traced lines out a ≡ simplified_as traced lines out b
unfolding calls_in written_as written_answer traced_answer
same_answer traced lines out (agreed t s) = refl
same_answer true lines out (refusing why s s') = refl
same_answer false lines out (refusing why s s') = refl

module _ (traced : Bool) (limit : ℕ) (allowed : is_allowed limit ≡ true) (store : List (List ℕ)) {desk list values : List ℕ} (out : List ℕ) {j : Result Job Refusal} {l₁ : Lent} {table : List ℕ}
    (p : ReadsJob list values j (lent store desk) l₁ table) where
  abbrev lines : List Tree
  lines = given false list (fresh (room (memory store)) 0)

  from_job : {r : Result Simplified Refusal × List ℕ} → r ≡ job_as traced lines limit out (job (room (memory store)) list values) → r ≡ simplify_as traced (min (length store) 4096) limit list values out
  from_job e = in_room store (λ n. simplify_as traced n limit list values out) (e ∙ call_as traced (room (memory store)) limit list values out allowed)

  marks_from_job : {m : List ℕ} → m ≡ job_marks_as traced lines limit out (job (room (memory store)) list values) → m ≡ marks_as traced (min (length store) 4096) limit list values out
  marks_from_job e = in_room store (λ n. marks_as traced n limit list values out) (e ∙ marks_as_lem traced (room (memory store)) limit list values out allowed)

  module _ {k : Job} (told : j ≡ Ok k) where
    -- nothing was counted and nothing marked when the job was read
    begins : FreshJob (Calls.ready (tree_in l₁ k.root) (state_in l₁) (rows_of table k.counts))
    begins = subst FreshJob (sym (rw told at p.answer)) (job_fresh (room (memory store)) list values)

    uncounted : Counting.count (state_in l₁) ≡ 0
    unfolding FreshJob
    uncounted = begins.uncounted

    unmarked : Marking.marks_of (state_in l₁) ≡ no_marks
    unfolding FreshJob
    unmarked = begins.unmarked

    -- the machine's count is the definition's: the bound of a limit up to 10 fits a word
    agrees : simplified_as traced lines out (simplify_by one_more (rows_of table k.counts) limit (tree_in l₁ k.root) (state_in l₁)) ≡ simplified_as traced lines out (simplify (rows_of table k.counts) limit (tree_in l₁ k.root) (state_in l₁))
    unfolding is_allowed
    agrees = same_answer traced lines out (machine_agrees (rows_of table k.counts) limit (tree_in l₁ k.root) (state_in l₁) (omega (arith, uncounted, bound_to_ten limit (leb-true limit 10 allowed))))

    marks_agree : marks_in (simplify_by one_more (rows_of table k.counts) limit (tree_in l₁ k.root) (state_in l₁)) ≡ marks_in (simplify (rows_of table k.counts) limit (tree_in l₁ k.root) (state_in l₁))
    marks_agree =
        marks_after_lem _
        ∙ ap (λ s. marks_after (simplify_by one_more (rows_of table k.counts) limit (tree_in l₁ k.root) s)) (sym (small_in_word (state_in l₁) (omega (arith, uncounted))))
        ∙ ap marks_after (machine_counts (rows_of table k.counts) limit (tree_in l₁ k.root) (state_in l₁)) ∙ marks_in_word _ ∙ sym (marks_after_lem _)

    -- each is 0 or 1
    marks_few : (row : ℕ) → get_or (marks_in (simplify (rows_of table k.counts) limit (tree_in l₁ k.root) (state_in l₁))) row 0 ≤ 1
    marks_few row =
        let g = marks_grow suc (rows_of table k.counts) limit (tree_in l₁ k.root) (state_in l₁) in
        let e : marks_in (simplify (rows_of table k.counts) limit (tree_in l₁ k.root) (state_in l₁)) ≡ Marks.marks_of g.rows = marks_after_lem _ ∙ g.are ∙ ap (noted g.rows) unmarked in
        rw e (mark_small g.rows row)

    pub simplifies : {built : Result ℕ Refused} {calls : ℕ} {l₂ : Lent} {r : Result Simplified Refusal} {w : Result ℕ Refusal} {out' : List ℕ} (desk₀ table₀ : List ℕ)
        → Built (simplify_by one_more (rows_of table k.counts) limit (tree_in l₁ k.root) (state_in l₁)) built l₁ l₂
        → WritesAnswer traced l₂ built w out out' → calls ≡ calls_on l₂.desk → r ≡ with_calls calls w
        → SimplifiesTexts traced limit list values out (work store desk₀ table₀) r out' l₂.desk
    unfolding job_as job_marks_as
    simplifies {built} {l₂ = l₂} {r} {out' = out'} desk₀ table₀ b w q e =
        let y = w lines b.step.sound (traced_step (job_holds p told).1 (job_traced p told) b.step) b.inside in
        let same =
        ap (λ r. (r, out')) e ∙ (λ i. (with_calls (q i) (y i).0, (y i).1)) ∙ ap (λ r. (r, (written_as traced lines out (seen built l₂)).1)) (counted traced lines l₂ built out)
        ∙ ap (simplified_as traced lines out) b.answer ∙ agrees in
        let on_desk = marks_seen l₂ built ∙ ap marks_in b.answer ∙ marks_agree in
        let wanted = marks_from_job (ap (job_marks_as traced lines limit out) (rw told at p.answer)) in
        let by_answer = ap (λ x. shown x.0 (marks_in (simplify (rows_of table k.counts) limit (tree_in l₁ k.root) (state_in l₁)))) same in
        record {
          answer = same ∙ from_job (ap (job_as traced lines limit out) (rw told at p.answer));
          marks = λ x. (record { long = b.step.sound.long; few = λ row. rw on_desk (marks_few row) }, on_desk ∙ sym (shown_is r _ x) ∙ by_answer ∙ wanted);
          none = λ x. sym wanted ∙ sym by_answer ∙ hidden_is r _ x;
        }

  pub simplifies_refused : {why : Refusal} (desk₀ table₀ desk₁ : List ℕ) → j ≡ Err why → SimplifiesTexts traced limit list values out (work store desk₀ table₀) (Err why) out desk₁
  unfolding job_as job_marks_as is_shown JobBy
  simplifies_refused {why} desk₀ table₀ desk₁ told =
      let by = job_most (subst JobBy (sym (rw told at p.answer)) (job_numbers (room (memory store)) list values)) in
      record {
        answer = from_job (ap (job_as traced lines limit out) (rw told at p.answer));
        marks = λ x. absurd (true≢false (sym x ∙ below_nine (number_of why) by));
        none = λ x. sym (marks_from_job (ap (job_marks_as traced lines limit out) (rw told at p.answer)));
      }
    where
      below_nine : (n : ℕ) → n ≤ 8 → (eqb n 9 || eqb n 10) ≡ false
      below_nine n l = rw (ne_eqb n 9 (λ e. omega (arith, l, e)), ne_eqb n 10 (λ e. omega (arith, l, e))) refl

-- ---- the marks that a call writes

pub marks_written : {traced : Bool} {limit : ℕ} {list values out : List ℕ} (w : Work) {r : Result Simplified Refusal} {marks out' desk : List ℕ} → SimplifiesTexts traced limit list values out w r out' desk
    → Shown r desk marks
    → ◌≡◌ {A = (Result Simplified Refusal × List ℕ) × List ℕ} ((r, out'), marks) (simplify_as traced (capacity w) limit list values out, marks_as traced (capacity w) limit list values out)
marks_written {traced} {limit} {list} {values} {out} w {r} {marks} p q = λ i. (p.answer i, go (is_shown r) refl i)
  where
    go : (b : Bool) → is_shown r ≡ b → marks ≡ marks_as traced (capacity w) limit list values out
    go true e = let m = p.marks e in q.copied e m.0 ∙ m.1
    go false e = q.none e ∙ sym (p.none e)
