-- Demand 3 with the marks, on the public calls: playing the tape that compiling wrote, as the very bytes that stand in the output, reports the answer and
-- the marks that evaluating reports, for every sheet. Assumes nothing.
use mathlib.Core.Path.{◌≡◌, refl, sym, ap, ◌∙◌}
use mathlib.Core.Bool.{false}
use mathlib.Core.List.{List}
use Prim.Native.Nat.{ℕ, ◌*◌, ◌≤◌}
use lib.ListN.{length, take}
use Rattle.std.specs.Prelude.{Result, Ok}
use Rattle.complex.specs.declared.Complex.{Complex}
use Rattle.expression.specs.declared.refusal.Refusal.{Refusal}
use Rattle.expression.specs.Trees.{Tree, size}
use Rattle.store.specs.Storing.{State, fresh}
use Rattle.text.specs.Lines as Lines
use Rattle.text.specs.Lines.{Whole}
use Rattle.listing.specs.Listings.{Swap, accepted, listing}
use Rattle.sheet.specs.Rows.{Rows, sheet}
use Rattle.tape.specs.Tapes.{tape}
use Rattle.tape.proofs.SameRows.{tape_marks}
use Rattle.calls.specs.Calls as Calls
use Rattle.calls.specs.Calls.{after_listing, with_sheet, job, evaluate_call, compile_call, play_call}
use Rattle.calls.specs.Marks.{evaluate_job_marks, evaluate_marks, play_sheet_marks, play_checked_marks, play_marks}
use Rattle.calls.proofs.Accepted.{accepted_good}
use Rattle.calls.proofs.Rooms.{same_root}
use Rattle.calls.proofs.Demand.{compiled_bytes, bytes_are, compiled_sound, compiled_plays}
use Rattle.calls.proofs.TapeBytes.{written_from, written_plays}

-- the marks of evaluating look at the root and the sheet alone
marks_from_lem : Tree → Whole Rows Refusal → List ℕ
marks_from_lem root w = evaluate_job_marks (with_sheet root (fresh 0 0) w)

marks_are : (room : ℕ) (list values : List ℕ) {root : Tree} {swaps : List Swap} {store : State}
    → listing false list (fresh room 0) ≡ accepted root swaps store → evaluate_marks room list values ≡ marks_from_lem root (sheet values)
unfolding evaluate_job_marks after_listing with_sheet job marks_from_lem
marks_are room list values {root} {swaps} {store} e =
    ap (λ x. evaluate_job_marks (after_listing Calls.refused x λ root swaps store. with_sheet root store (sheet values))) e ∙ go (sheet values)
  where
    go : (w : Whole Rows Refusal) → evaluate_job_marks (with_sheet root store w) ≡ evaluate_job_marks (with_sheet root (fresh 0 0) w)
    go (Lines.read rows) = refl
    go (Lines.refused why) = refl

-- "for every accepted listing of size at most 512 and every sheet, playing the compiled bytes and evaluating report the same answer and the same marks"
module _ (room : ℕ) (list out : List ℕ) {root : Tree} {swaps : List Swap} {store : State} (read : listing false list (fresh room 0) ≡ accepted root swaps store)
    (small : size root ≤ 512) (ample : 24 * size root ≤ length out) where
  pub compiled_marks : (values : List ℕ) → play_marks (compiled_bytes room list out read small ample) values ≡ evaluate_marks room list values
  unfolding play_checked_marks play_sheet_marks evaluate_job_marks with_sheet marks_from_lem
  compiled_marks values =
      ap (λ c. play_checked_marks c (compiled_bytes room list out read small ample) values) (compiled_sound room list out read small ample)
      ∙ ap (λ bs. play_sheet_marks bs (sheet values)) (bytes_are room list out read small ample)
      ∙ under (sheet values)
      ∙ sym (marks_are room list values read)
    where
      under : (w : Whole Rows Refusal) → play_sheet_marks (tape root) w ≡ marks_from_lem root w
      under (Lines.read rows) = let good = accepted_good false list room read in tape_marks rows root good.proper good.limited.shallow
      under (Lines.refused why) = refl

  pub compiled_plays_marked : (values : List ℕ)
      → ◌≡◌ {A = Result Complex Refusal × List ℕ} (play_call (compiled_bytes room list out read small ample) values, play_marks (compiled_bytes room list out read small ample) values)
      (evaluate_call room list values, evaluate_marks room list values)
  compiled_plays_marked values = λ i. (compiled_plays room list out read small ample values i, compiled_marks values i)

-- the bytes that compiling wrote, where it answers a length, and evaluating in a store of any room that accepts the listing
module _ (room : ℕ) (list out : List ℕ) {bytes : ℕ} {out' : List ℕ} (wrote : compile_call room list out ≡ (Ok bytes, out')) (room' : ℕ) {root : Tree} {swaps : List Swap} {store : State}
    (read : listing false list (fresh room' 0) ≡ accepted root swaps store) where
  pub written_marks : (values : List ℕ) → play_marks (take bytes out') values ≡ evaluate_marks room' list values
  written_marks values =
      let from = written_from room list out wrote in
      ap (λ bs. play_marks bs values) (from.bytes_are ∙ sym (bytes_are room list out from.read from.small from.ample))
      ∙ compiled_marks room list out from.read from.small from.ample values
      ∙ marks_are room list values from.read
      ∙ ap (λ t. marks_from_lem t (sheet values)) (same_root false list room room' from.read read).0
      ∙ sym (marks_are room' list values read)

  pub written_plays_marked : (values : List ℕ)
      → ◌≡◌ {A = Result Complex Refusal × List ℕ} (play_call (take bytes out') values, play_marks (take bytes out') values) (evaluate_call room' list values, evaluate_marks room' list values)
  written_plays_marked values = λ i. (written_plays room list out wrote room' read values i, written_marks values i)
