-- The commands that store no node but those of a listing come to the same with 1024 rows as with 4096. Assumes nothing.
use mathlib.Core.Path.{◌≡◌, refl, ap, subst, ◌∙◌}
use mathlib.Core.Bool.{Bool}
use mathlib.Core.List.{List}
use Prim.Native.Nat.{ℕ, ◌≤◌, min}
use native.Mathlib.Omega.{arith}
use lib.ListN.{length}
use borrow.Author.Tests.{le-ltb}
use Rattle.calls.proofs.Capacity.{evaluate_alike, evaluate_marks_alike, to_real_alike, compile_alike}
use Rattle.lacks.proofs.Rooms.{missing_alike}
use Rattle.console.specs.Parting.{listing_in, sheet_in}
use Rattle.outcomes.specs.declared.Outcome.{Outcome}
use Rattle.outcomes.specs.Coming.{Comes}
use Rattle.commands.specs.declared.words.Command.{Command}
use Rattle.commands.specs.declared.words.Parted.{Parted}
use Rattle.commands.specs.declared.words.Whole.{Whole}
use Rattle.commands.specs.Results.{of_evaluated, of_real, of_tape, empty_tape, whole, parted, result_in, result_for, parted_marks, marks_in, marks}
use Rattle.commands.specs.Coming.{ComesMarked}
use Rattle.commands.specs.Needing.{WholeAlike, PartedAlike, Alike}

-- ---- by the command

pub evaluate_little : (shown : Bool) → PartedAlike (Parted.Evaluate shown)
unfolding parted parted_marks
evaluate_little shown list values out = (
  λ i. of_evaluated (missing_alike 1024 4096 (omega arith) (omega arith) list values i) list values (evaluate_alike 1024 4096 (omega arith) (omega arith) list values i),
  evaluate_marks_alike 1024 4096 (omega arith) (omega arith) list values,
)

pub play_little : (shown : Bool) → PartedAlike (Parted.Play shown)
unfolding parted parted_marks
play_little shown list values out = (refl, refl)

pub real_little : WholeAlike Whole.Real
unfolding whole
real_little text out = ap (of_real text) (to_real_alike 1024 4096 (omega arith) (omega arith) text)

pub compile_little : WholeAlike Whole.Compile
unfolding whole
compile_little text out = ap (λ x. of_tape text x.0 x.1) (compile_alike 1024 4096 (omega arith) (omega arith) text empty_tape)

pub show_little : WholeAlike Whole.Show
unfolding whole
show_little text out = refl

pub check_little : WholeAlike Whole.Check
unfolding whole
check_little text out = refl

pub whole_alike : (command : Whole) → WholeAlike command → Alike (Command.Whole command)
unfolding result_in marks_in
whole_alike command p input out = (p input out, refl)

pub parted_alike : (command : Parted) → PartedAlike command → Alike (Command.Parted command)
unfolding result_in marks_in
parted_alike command p input out = p (listing_in input) (sheet_in input) out

-- ---- by the rows that are lent

pub in_so_many : {room : ℕ} (command : Command) (input out : List ℕ) (store : List (List ℕ)) {r : Outcome} {out' marks' : List ℕ} → room ≤ 4096 → room ≡ length store
    → ComesMarked (result_in (min (length store) 4096) command input out) (marks_in (min (length store) 4096) command input out) r out' marks'
    → ComesMarked (result_in room command input out) (marks_in room command input out) r out' marks'
in_so_many {room} command input out store {r} {out'} {marks'} h a x =
    let z : min (length store) 4096 ≡ room = omega (arith, a, h) in
    subst (λ k. ComesMarked (result_in k command input out) (marks_in k command input out) r out' marks') z x

module _ (command : Command) (input out : List ℕ) {r : Outcome} {out' marks' : List ℕ} (short : length input ≤ 262144) where
  pub with_4096 : ComesMarked (result_in 4096 command input out) (marks_in 4096 command input out) r out' marks'
      → ComesMarked (result_for command input out) (marks command input out) r out' marks'
  unfolding result_for marks
  with_4096 x = record {
    comes = record { answer = rw (le-ltb 262144 (length input) short) x.comes.answer; inside = x.comes.inside };
    marked = rw (le-ltb 262144 (length input) short) x.marked;
  }

  pub with_1024 : Alike command → ComesMarked (result_in 1024 command input out) (marks_in 1024 command input out) r out' marks'
      → ComesMarked (result_for command input out) (marks command input out) r out' marks'
  with_1024 p x = with_4096 (record { comes = subst (λ k. Comes k r out') (p input out).0 x.comes; marked = x.marked ∙ (p input out).1 })
