-- Demand 3 on the public calls: an accepted expression of size at most 512 compiles, and its tape, as the very bytes that stand in the output,
-- plays what evaluating gives. Assumes nothing.
use mathlib.Core.Path.{◌≡◌, refl, sym, ap, ◌∙◌}
use mathlib.Core.Bool.{false}
use mathlib.Core.List.{List, ◌++◌}
use Prim.Native.Nat.{ℕ, ◌*◌, ◌≤◌}
use native.Mathlib.Omega.{arith}
use lib.ListN.{length, take, drop}
use lib.Seq.{take-append_seam}
use borrow.Author.Tests.{le-ltb}
use Rattle.std.specs.Prelude.{Ok, Err}
use Rattle.expression.specs.declared.refusal.Refusal.{Refusal}
use Rattle.expression.specs.Trees.{Tree, size}
use Rattle.store.specs.Storing.{State, fresh}
use Rattle.text.specs.Lines as Lines
use Rattle.text.specs.Lines.{Whole}
use Rattle.listing.specs.Listings.{Swap, accepted, listing}
use Rattle.sheet.specs.Rows.{Rows, sheet}
use Rattle.tape.specs.Tapes.{tape, compiled, check}
use Rattle.tape.proofs.Emitting.{tape_length}
use Rattle.tape.proofs.Demand.{tape_sound, tape_plays}
use Rattle.calls.specs.Calls as Calls
use Rattle.calls.specs.Calls.{after_listing, with_sheet, job, evaluated, evaluate_job, evaluate_call, compile_call, play_sheet, play_checked, play_call}
use Rattle.calls.proofs.Stored.{Good}
use Rattle.calls.proofs.Accepted.{accepted_good}

-- "Take any accepted expression of size at most 512 and an output with room for its tape"
module _ (room : ℕ) (list out : List ℕ) {root : Tree} {swaps : List Swap} {store : State} (read : listing false list (fresh room 0) ≡ accepted root swaps store)
    (small : size root ≤ 512) (ample : 24 * size root ≤ length out) where
  good : Good root
  good = accepted_good false list room read

  -- "It compiles": its tape is at the start of the output, and the rest is kept
  pub compiles : compile_call room list out ≡ (Ok (24 * size root), tape root ++ drop (24 * size root) out)
  unfolding compile_call after_listing compiled
  compiles =
      ap (λ x. after_listing (λ why. (Err why, out)) x λ root swaps store. compiled root out) read
      ∙ rw (le-ltb 512 (size root) small, le-ltb (length out) (length (tape root)) (omega (arith, ample, tape_length root)), tape_length root) refl

  -- the bytes that it wrote
  abbrev pub compiled_bytes : List ℕ
  compiled_bytes = take (24 * size root) (compile_call room list out).1

  pub bytes_are : compiled_bytes ≡ tape root
  bytes_are = ap (λ x. take (24 * size root) x.1) compiles ∙ rw (← tape_length root) (take-append_seam (tape root) _)

  -- are sound
  pub compiled_sound : check compiled_bytes ≡ Ok tt
  compiled_sound = ap check bytes_are ∙ tape_sound root good.proper good.limited.shallow small

  -- "and for every accepted sheet, playing that tape gives what evaluating the expression gives, bit for bit: the value, INCOMPLETE, or the same
  -- missing function value"; a sheet that is refused is refused alike
  pub compiled_plays : (values : List ℕ) → play_call compiled_bytes values ≡ evaluate_call room list values
  unfolding play_checked play_sheet evaluate_job after_listing with_sheet job
  compiled_plays values =
      ap (λ c. play_checked c compiled_bytes values) compiled_sound
      ∙ ap (λ bs. play_sheet bs (sheet values)) bytes_are
      ∙ under (sheet values)
      ∙ sym evaluated_is
    where
      under : (w : Whole Rows Refusal) → play_sheet (tape root) w ≡ evaluate_job (with_sheet root store w)
      under (Lines.read rows) = ap evaluated (tape_plays rows root good.proper good.limited.shallow)
      under (Lines.refused why) = refl

      evaluated_is : evaluate_call room list values ≡ evaluate_job (with_sheet root store (sheet values))
      evaluated_is = ap (λ x. evaluate_job (after_listing Calls.refused x λ root swaps store. with_sheet root store (sheet values))) read
