-- What a job lacks is the same with any room for 1024 nodes or more. Assumes nothing.
use mathlib.Core.Path.{◌≡◌, refl}
use mathlib.Core.List.{List}
use Prim.Native.Nat.{ℕ, ◌≤◌}
use Rattle.expression.specs.declared.refusal.Refusal.{Refusal}
use Rattle.expression.specs.Trees.{Tree}
use Rattle.text.specs.Lines as Lines
use Rattle.text.specs.Lines.{Whole}
use Rattle.store.specs.Storing.{State}
use Rattle.sheet.specs.Rows.{Rows, sheet}
use Rattle.calls.specs.Calls as Calls
use Rattle.calls.specs.Calls.{after_listing, with_sheet, job}
use Rattle.calls.proofs.Capacity.{alike}
use Rattle.lacks.specs.Lacking.{missing_of, missing_in_job}

module _ (room room' : ℕ) (ample : 1024 ≤ room) (ample' : 1024 ≤ room') (list values : List ℕ) where
  pub missing_alike : missing_in_job room list values ≡ missing_in_job room' list values
  unfolding job after_listing with_sheet missing_of
  missing_alike =
      alike (λ l. missing_of (after_listing Calls.refused l λ root swaps store. with_sheet root store (sheet values))) (λ root swaps s s'. go root s s' (sheet values)) list room room' ample ample'
    where
      go : (root : Tree) (s s' : State) (w : Whole Rows Refusal) → missing_of (with_sheet root s w) ≡ missing_of (with_sheet root s' w)
      go root s s' (Lines.read rows) = refl
      go root s s' (Lines.refused why) = refl
