-- What the marks say, on the public calls: a row that is marked was found for something that was asked, and is the first that matches it; and a sheet from
-- which a row is taken away that is not marked gets the same answer, and each other row the mark that it had. Assumes nothing.
use mathlib.Core.Path.{◌≡◌, refl, ap, ◌∙◌, subst}
use mathlib.Core.Bool.{Bool, true, false, cond, false≢true}
use mathlib.Core.List.{List, []}
use mathlib.Core.Logic.{◌≢◌}
use Prim.Native.Nat.{ℕ, suc, ◌<◌}
use lib.ListN.{get_or}
use Rattle.std.specs.Prelude.{Result, Ok, Err}
use Rattle.memory.specs.Marks.{most_marks, no_marks, noted}
use Rattle.memory.proofs.Marks.{among, unmarked, marked}
use Rattle.expression.specs.declared.refusal.Refusal.{Refusal}
use Rattle.expression.specs.Refusals.{is_lack}
use Rattle.expression.specs.Trees.{Tree}
use Rattle.store.specs.Storing.{State, Answer, fresh}
use Rattle.text.specs.Lines as Lines
use Rattle.text.specs.Lines.{Whole}
use Rattle.listing.specs.Listings as Listings
use Rattle.listing.specs.Listings.{Listing, Swap, accepted, listing}
use Rattle.sheet.specs.Rows.{Row, Rows, sheet}
use Rattle.sheet.specs.Without.{without_row, renumbered}
use Rattle.sheet.proofs.Numbering.{Foremost, marks_renumbered}
use Rattle.evaluation.specs.Using.{used}
use Rattle.evaluation.proofs.Asking as Evaluation
use Rattle.evaluation.proofs.Asking.{Uses, uses_foremost}
use Rattle.evaluation.proofs.Unused.{evaluates_unmarked, uses_without}
use Rattle.tasks.specs.Tasks.{is_allowed}
use Rattle.simplification.specs.Simplifying.{simplify}
use Rattle.simplification.proofs.Tallying.{Both, both_give, both_refuse, beside}
use Rattle.simplification.proofs.Marking as Marking
use Rattle.simplification.proofs.Asking as Simplification
use Rattle.simplification.proofs.Unused.{Renumbered, simplifies_unmarked, marks_without}
use Rattle.tape.specs.Tapes.{check, steps_in}
use Rattle.tape.specs.Using.{used_playing}
use Rattle.tape.proofs.Asking as Tape
use Rattle.tape.proofs.Unused as Playing
use Rattle.calls.specs.declared.Simplified.{Simplified}
use Rattle.calls.specs.Calls as Calls
use Rattle.calls.specs.Calls.{Job, ready, after_listing, with_sheet, job, written_answer, calls_in, simplified_answer, evaluated, evaluate_job, evaluate_call, play_sheet, play_checked, play_call, simplify_job, simplify_call}
use Rattle.calls.specs.Marks.{evaluate_job_marks, evaluate_marks, play_sheet_marks, play_checked_marks, play_marks, marks_in, is_shown, shown, simplify_job_marks, simplify_marks}
use Rattle.calls.proofs.Framing.{shown_is, marks_after_lem}
use Rattle.calls.proofs.Results.{Fresh, FreshJob, job_fresh}

no_mark : {A : Type 0} (j : ℕ) → get_or no_marks j 0 ≡ 1 → A
unfolding noted among
no_mark j m = absurd (false≢true (marked [] j m))

-- where none is marked
none_renumbered : (j i : ℕ) → i ≢ j → i < most_marks → get_or no_marks (renumbered j i) 0 ≡ get_or no_marks i 0
unfolding noted among
none_renumbered j i n l = marks_renumbered j i [] n refl l

-- ---- "A row that is marked matches an asked operation and is the first such"

-- evaluating: the listing is accepted and the sheet read, and evaluating the root asks for what the row was found for
pub record EvaluateUses (room : ℕ) (list values : List ℕ) (j : ℕ) : Type 0 where
  pub root : Tree
  pub swaps : List Swap
  pub store : State
  pub rows : Rows
  pub read : listing false list (fresh room 0) ≡ accepted root swaps store
  pub bound : sheet values ≡ Lines.read rows
  pub uses : Uses rows (Evaluation.Asks rows root) j
  pub first : (other : Row) → Foremost uses.operation uses.left uses.right other rows.functions j uses.value

pub evaluate_marked : (room : ℕ) (list values : List ℕ) (j : ℕ) → get_or (evaluate_marks room list values) j 0 ≡ 1 → EvaluateUses room list values j
unfolding evaluate_job_marks after_listing with_sheet job
evaluate_marked room list values j m = go (listing false list (fresh room 0)) refl (sheet values) refl m
  where
    go : (l : Listing) → listing false list (fresh room 0) ≡ l → (w : Whole Rows Refusal) → sheet values ≡ w
        → get_or (evaluate_job_marks (after_listing Calls.refused l λ root swaps store. with_sheet root store w)) j 0 ≡ 1 → EvaluateUses room list values j
    go (Listings.refused why) e w f m = no_mark j m
    go (accepted root swaps store) e (Lines.refused why) f m = no_mark j m
    go (accepted root swaps store) e (Lines.read rows) f m =
        let u = Evaluation.marked_uses rows j root m in
        record { root = root; swaps = swaps; store = store; rows = rows; read = e; bound = f; uses = u; first = λ other. uses_foremost u other }

-- playing: the tape is sound and the sheet read, and the tape's steps ask for what the row was found for
pub record PlayUses (tape values : List ℕ) (j : ℕ) : Type 0 where
  pub rows : Rows
  pub sound : check tape ≡ Ok tt
  pub bound : sheet values ≡ Lines.read rows
  pub uses : Uses rows (Tape.Asks rows (steps_in tape) []) j
  pub first : (other : Row) → Foremost uses.operation uses.left uses.right other rows.functions j uses.value

pub play_marked : (tape values : List ℕ) (j : ℕ) → get_or (play_marks tape values) j 0 ≡ 1 → PlayUses tape values j
unfolding play_checked_marks play_sheet_marks
play_marked tape values j m = go (check tape) refl (sheet values) refl m
  where
    go : (c : Result (Unit {0}) Refusal) → check tape ≡ c → (w : Whole Rows Refusal) → sheet values ≡ w → get_or (play_checked_marks c tape values) j 0 ≡ 1 → PlayUses tape values j
    go (Err why) e w f m = no_mark j m
    go (Ok u) e (Lines.refused why) f m = no_mark j (rw f at m)
    go (Ok u) e (Lines.read rows) f m =
        let u = Tape.marked_uses rows j tape (rw f at m) in
        record { rows = rows; sound = e; bound = f; uses = u; first = λ other. uses_foremost u other }

-- simplifying: the listing is accepted and the sheet read, and a fold that is carried out asks for what the row was found for
pub record SimplifyUses (room limit : ℕ) (list values : List ℕ) (j : ℕ) : Type 0 where
  pub root : Tree
  pub swaps : List Swap
  pub store : State
  pub rows : Rows
  pub read : listing false list (fresh room 0) ≡ accepted root swaps store
  pub bound : sheet values ≡ Lines.read rows
  pub uses : Uses rows (Simplification.Asks suc rows limit root store) j
  pub first : (other : Row) → Foremost uses.operation uses.left uses.right other rows.functions j uses.value

shown_marked : (r : Result Simplified Refusal) (marks : List ℕ) (j : ℕ) → get_or (shown r marks) j 0 ≡ 1 → get_or marks j 0 ≡ 1
unfolding shown is_shown
shown_marked (Ok a) marks j m = m
shown_marked (Err why) marks j m = go (is_lack why) m
  where
    go : (b : Bool) → get_or (cond b marks no_marks) j 0 ≡ 1 → get_or marks j 0 ≡ 1
    go true m = m
    go false m = no_mark j m

store_unmarked : (room : ℕ) (list values : List ℕ) {root : Tree} {swaps : List Swap} {store : State} {rows : Rows}
    → listing false list (fresh room 0) ≡ accepted root swaps store → sheet values ≡ Lines.read rows → Marking.marks_of store ≡ no_marks
unfolding after_listing with_sheet job FreshJob
store_unmarked room list values {root} {swaps} {store} e f =
    (subst FreshJob (ap (λ l. after_listing Calls.refused l λ root swaps store. with_sheet root store (sheet values)) e ∙ ap (with_sheet root store) f) (job_fresh room list values)).unmarked

pub simplify_marked : (room limit : ℕ) (list values out : List ℕ) (j : ℕ) → get_or (simplify_marks room limit list values out) j 0 ≡ 1 → SimplifyUses room limit list values j
unfolding simplify_marks simplify_job_marks after_listing with_sheet job
simplify_marked room limit list values out j m = allowed (is_allowed limit) m
  where
    go : (l : Listing) → listing false list (fresh room 0) ≡ l → (w : Whole Rows Refusal) → sheet values ≡ w
        → get_or (simplify_job_marks limit out (after_listing Calls.refused l λ root swaps store. with_sheet root store w)) j 0 ≡ 1 → SimplifyUses room limit list values j
    go (Listings.refused why) e w f m = no_mark j m
    go (accepted root swaps store) e (Lines.refused why) f m = no_mark j m
    go (accepted root swaps store) e (Lines.read rows) f m =
        let a = simplify rows limit root store in
        let u = Simplification.marked_uses suc rows j limit root store (store_unmarked room list values e f) (rw (marks_after_lem a) at (shown_marked (simplified_answer out a).0 (marks_in a) j m)) in
        record { root = root; swaps = swaps; store = store; rows = rows; read = e; bound = f; uses = u; first = λ other. uses_foremost u other }

    allowed : (b : Bool) → get_or (cond b (simplify_job_marks limit out (job room list values)) no_marks) j 0 ≡ 1 → SimplifyUses room limit list values j
    allowed true m = go (listing false list (fresh room 0)) refl (sheet values) refl m
    allowed false m = no_mark j m

-- ---- a row that is not marked can be taken away with no change of the answer, its place aside

-- values⁻ says the sheet that values says, without row j
module _ (j : ℕ) (rows : Rows) (values values⁻ : List ℕ) (all : sheet values ≡ Lines.read rows) (less : sheet values⁻ ≡ Lines.read (without_row j rows)) (few : j < most_marks) where
  -- what is read then
  data Jobs : Job → Job → Type 0 where
    both_ready : (root : Tree) (store : State) → Jobs (ready root store rows) (ready root store (without_row j rows))
    both_refused : (why : Refusal) → Jobs (Calls.refused why) (Calls.refused why)

  jobs : (room : ℕ) (list : List ℕ) → Jobs (job room list values) (job room list values⁻)
  unfolding job after_listing with_sheet
  jobs room list = rw (all, less) (go (listing false list (fresh room 0)))
    where
      go : (l : Listing) → Jobs (after_listing Calls.refused l λ root swaps store. with_sheet root store (Lines.read rows)) (after_listing Calls.refused l λ root swaps store. with_sheet root store (Lines.read (without_row j rows)))
      go (accepted root swaps store) = both_ready root store
      go (Listings.refused why) = both_refused why

  -- ---- evaluating

  job_without : {a b : Job} → Jobs a b → get_or (evaluate_job_marks a) j 0 ≡ 0 → evaluate_job b ≡ evaluate_job a
  unfolding evaluate_job evaluate_job_marks
  job_without (both_ready root store) m = ap evaluated (evaluates_unmarked rows j root few m)
  job_without (both_refused why) m = refl

  pub evaluate_without : (room : ℕ) (list : List ℕ) → get_or (evaluate_marks room list values) j 0 ≡ 0 → evaluate_call room list values⁻ ≡ evaluate_call room list values
  evaluate_without room list m = job_without (jobs room list) m

  job_marks_without : {a b : Job} → Jobs a b → get_or (evaluate_job_marks a) j 0 ≡ 0 → (i : ℕ) → i ≢ j → i < most_marks
      → get_or (evaluate_job_marks b) (renumbered j i) 0 ≡ get_or (evaluate_job_marks a) i 0
  unfolding evaluate_job_marks
  job_marks_without (both_ready root store) m i n l =
      let other = unmarked (used rows root) j few m in
      rw (uses_without rows j root other) (marks_renumbered j i (used rows root) n other l)
  job_marks_without (both_refused why) m i n l = none_renumbered j i n l

  pub evaluate_marks_without : (room : ℕ) (list : List ℕ) → get_or (evaluate_marks room list values) j 0 ≡ 0 → (i : ℕ) → i ≢ j → i < most_marks
      → get_or (evaluate_marks room list values⁻) (renumbered j i) 0 ≡ get_or (evaluate_marks room list values) i 0
  evaluate_marks_without room list m = job_marks_without (jobs room list) m

  -- ---- playing

  pub play_without : (tape : List ℕ) → get_or (play_marks tape values) j 0 ≡ 0 → play_call tape values⁻ ≡ play_call tape values
  unfolding play_checked play_sheet play_checked_marks play_sheet_marks
  play_without tape m = go (check tape) m
    where
      go : (c : Result (Unit {0}) Refusal) → get_or (play_checked_marks c tape values) j 0 ≡ 0 → play_checked c tape values⁻ ≡ play_checked c tape values
      go (Ok u) m = rw (all, less) (ap evaluated (Playing.plays_unmarked rows j tape few (rw all at m)))
      go (Err why) m = refl

  pub play_marks_without : (tape : List ℕ) → get_or (play_marks tape values) j 0 ≡ 0 → (i : ℕ) → i ≢ j → i < most_marks
      → get_or (play_marks tape values⁻) (renumbered j i) 0 ≡ get_or (play_marks tape values) i 0
  unfolding play_checked_marks play_sheet_marks
  play_marks_without tape m i n l = go (check tape) m
    where
      go : (c : Result (Unit {0}) Refusal) → get_or (play_checked_marks c tape values) j 0 ≡ 0 → get_or (play_checked_marks c tape values⁻) (renumbered j i) 0 ≡ get_or (play_checked_marks c tape values) i 0
      go (Ok u) m =
          let other = unmarked (used_playing rows tape) j few (rw all at m) in
          rw (all, less, Playing.uses_without rows j tape other) (marks_renumbered j i (used_playing rows tape) n other l)
      go (Err why) m = none_renumbered j i n l

  -- ---- simplifying: where the answer is one at which the marks are shown, which is a success, 9 or 10. After another refusal they are zero though
  -- rows may have been used: without such a row it could be another answer

  same_answer : (out : List ℕ) {a b : Answer} → Both (Renumbered j no_marks no_marks) a b → simplified_answer out b ≡ simplified_answer out a
  unfolding written_answer calls_in
  same_answer out (both_give t s s' (beside room stored kept a b x)) = rw x.calls refl
  same_answer out (both_refuse why s s' x) = refl

  module _ (limit : ℕ) (out : List ℕ) where
    -- the answer at a limit that is not allowed
    abbrev beyond : Result Simplified Refusal × List ℕ
    beyond = (Err Refusal.BadLimit, out)

    simplifies : (root : Tree) (store : State) → Fresh store → is_shown (simplified_answer out (simplify rows limit root store)).0 ≡ true
        → get_or (shown (simplified_answer out (simplify rows limit root store)).0 (marks_in (simplify rows limit root store))) j 0 ≡ 0
        → Both (Renumbered j no_marks no_marks) (simplify rows limit root store) (simplify (without_row j rows) limit root store)
    simplifies root store f s m =
        let a = simplify rows limit root store in
        simplifies_unmarked suc rows j limit root store f.unmarked few (rw (shown_is (simplified_answer out a).0 (marks_in a) s, marks_after_lem a) at m)

    simplify_job_without : {a b : Job} → Jobs a b → FreshJob a → is_shown (simplify_job limit out a).0 ≡ true → get_or (simplify_job_marks limit out a) j 0 ≡ 0
        → simplify_job limit out b ≡ simplify_job limit out a
    unfolding simplify_job simplify_job_marks FreshJob
    simplify_job_without (both_ready root store) f s m = same_answer out (simplifies root store f s m)
    simplify_job_without (both_refused why) f s m = refl

    simplify_job_marks_without : {a b : Job} → Jobs a b → FreshJob a → is_shown (simplify_job limit out a).0 ≡ true → get_or (simplify_job_marks limit out a) j 0 ≡ 0
        → (i : ℕ) → i ≢ j → i < most_marks → get_or (simplify_job_marks limit out b) (renumbered j i) 0 ≡ get_or (simplify_job_marks limit out a) i 0
    unfolding simplify_job simplify_job_marks FreshJob
    simplify_job_marks_without (both_ready root store) f s m i n l =
        let a = simplify rows limit root store in
        let b = simplify (without_row j rows) limit root store in
        let both = simplifies root store f s m in
        ap (λ r. get_or (shown r.0 (marks_in b)) (renumbered j i) 0) (same_answer out both)
        ∙ rw (shown_is (simplified_answer out a).0 (marks_in b) s, shown_is (simplified_answer out a).0 (marks_in a) s, marks_after_lem a, marks_after_lem b) (marks_without both i n l)
    simplify_job_marks_without (both_refused why) f s m i n l = none_renumbered j i n l

    pub simplify_without : (room : ℕ) (list : List ℕ) → is_shown (simplify_call room limit list values out).0 ≡ true → get_or (simplify_marks room limit list values out) j 0 ≡ 0
        → simplify_call room limit list values⁻ out ≡ simplify_call room limit list values out
    unfolding simplify_call simplify_marks
    simplify_without room list s m = go (is_allowed limit) s m
      where
        go : (b : Bool) → is_shown (cond b (simplify_job limit out (job room list values)) beyond).0 ≡ true → get_or (cond b (simplify_job_marks limit out (job room list values)) no_marks) j 0 ≡ 0
            → cond b (simplify_job limit out (job room list values⁻)) beyond ≡ cond b (simplify_job limit out (job room list values)) beyond
        go true s m = simplify_job_without (jobs room list) (job_fresh room list values) s m
        go false s m = refl

    pub simplify_marks_without : (room : ℕ) (list : List ℕ) → is_shown (simplify_call room limit list values out).0 ≡ true → get_or (simplify_marks room limit list values out) j 0 ≡ 0
        → (i : ℕ) → i ≢ j → i < most_marks → get_or (simplify_marks room limit list values⁻ out) (renumbered j i) 0 ≡ get_or (simplify_marks room limit list values out) i 0
    unfolding simplify_call simplify_marks
    simplify_marks_without room list s m i n l = go (is_allowed limit) s m
      where
        go : (b : Bool) → is_shown (cond b (simplify_job limit out (job room list values)) beyond).0 ≡ true → get_or (cond b (simplify_job_marks limit out (job room list values)) no_marks) j 0 ≡ 0
            → get_or (cond b (simplify_job_marks limit out (job room list values⁻)) no_marks) (renumbered j i) 0 ≡ get_or (cond b (simplify_job_marks limit out (job room list values)) no_marks) i 0
        go true s m = simplify_job_marks_without (jobs room list) (job_fresh room list values) s m i n l
        go false s m = none_renumbered j i n l
