-- From its bits 58 on, a packed answer is the number of its refusal, and 0 where it is none. Assumes nothing.
use mathlib.Core.Path.{◌≡◌}
use Prim.Native.Nat.{ℕ, ◌/◌}
use mathlib.Core.List.{List}
use native.Mathlib.Omega.{arith}
use Rattle.std.specs.Prelude.{Ok, Err}
use Rattle.expression.specs.declared.refusal.Refusal.{Refusal}
use Rattle.expression.specs.Refusals.{number_of}
use Rattle.store.specs.declared.desk.Refused.{Refused}
use Rattle.store.specs.Desk.{refusal_on}
use Rattle.listing.specs.declared.Listed.{Listed}
use Rattle.sheet.specs.declared.Counts.{Counts}
use Rattle.calls.proofs.Refusing.{refusal_some}
use Rattle.timed.specs.Packed.{refused_of, built_of, listing_of, sheet_of, written_of}

abbrev told : ℕ → ℕ
told r = r / 288230376151711744

pub refusal_told : (why : Refusal) → told (refused_of why) ≡ number_of why
refusal_told why = let (_, small) = refusal_some why in omega arith

-- ---- an answer of what builds: a node or a refusal

pub unbuilt_told : (desk : List ℕ) (e : Refused) → told (built_of desk (Err e)) ≡ number_of (refusal_on desk)
unfolding built_of
unbuilt_told desk e = refusal_told (refusal_on desk)

-- ---- answers that are none

pub built_told : (desk : List ℕ) (node : ℕ) → told (built_of desk (Ok node)) ≡ 0
unfolding built_of
built_told desk node = omega arith

pub listing_told : (desk : List ℕ) (a : Listed) → told (listing_of desk (Ok a)) ≡ 0
listing_told desk a = omega arith

pub sheet_told : (rows : Counts) → told (sheet_of (Ok rows)) ≡ 0
sheet_told rows = omega arith

pub written_told : (bytes : ℕ) → told (written_of (Ok bytes)) ≡ 0
written_told bytes = omega arith
