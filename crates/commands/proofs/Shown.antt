-- Where the marks are asked for, the answer before them has at most 43,008 bytes, so that their line has room. Assumes nothing.
use mathlib.Core.Path.{◌≡◌, refl, sym, subst, ◌∙◌}
use mathlib.Core.Bool.{Bool, true, false, cond}
use mathlib.Core.List.{List}
use Prim.Native.Nat.{ℕ, ◌≤◌}
use native.Mathlib.Omega.{arith}
use lib.Dec.{ltb}
use lib.ListN.{length, length-take}
use Rattle.calls.specs.declared.Simplified.{Simplified}
use Rattle.calls.specs.Calls.{evaluate_call, simplify_call, play_call}
use Rattle.calls.specs.Origins.{simplify_origins}
use Rattle.calls.proofs.OutRoom.{simplify_most, simplify_origins_most}
use Rattle.console.proofs.Lines.{value_short}
use Rattle.console.specs.TapeText.{tape_in}
use Rattle.console.specs.Parting.{listing_in, sheet_in}
use Rattle.lacks.specs.declared.Missing.{Missing}
use Rattle.std.specs.Prelude.{Option, Result, Ok, Err}
use Rattle.complex.specs.declared.Complex.{Complex}
use Rattle.expression.specs.declared.refusal.Refusal.{Refusal}
use Rattle.lacks.specs.Lacking.{missing_in_job, missing_on_tape}
use Rattle.outcomes.specs.declared.Outcome.{Outcome}
use Rattle.outcomes.specs.Outcomes as Outcomes
use Rattle.outcomes.specs.Outcomes.{printed, with_calls, refused, too_long}
use Rattle.outcomes.specs.Coming.{seen, Inside, Comes, Short}
use Rattle.commands.specs.declared.words.Command.{Command}
use Rattle.commands.specs.declared.words.Parted.{Parted}
use Rattle.commands.specs.Words.{parted_shows, shows}
use Rattle.commands.specs.Results.{of_evaluated, of_simplified, simplified_with, parted, result_in, result_for}
use Rattle.commands.proofs.Choosing.{never}

-- the bytes of a result leave room
Few : Outcomes.Result → Type 0
Few (printed text) = length text ≤ 64496
Few (with_calls text calls) = length text ≤ 64496
Few (refused why detail) = Unit {0}
Few too_long = Unit {0}

few_short : (out : List ℕ) (o : Outcome) → Inside out o → Few (seen out o) → Short o
unfolding Few
few_short out (Outcome.Printed n) i h = omega (arith, i.1, h)
few_short out (Outcome.Simplified n calls) i h = omega (arith, i.1, h)
few_short out (Outcome.Refused why detail) i h = tt
few_short out Outcome.TooLong i h = tt

-- ---- by the command

evaluated_few : (missing : Option Missing) (list values : List ℕ) (a : Result Complex Refusal) → Few (of_evaluated missing list values a)
unfolding Few of_evaluated
evaluated_few missing list values (Ok z) = omega (arith, value_short z)
evaluated_few missing list values (Err why) = tt

listing_few : (list values : List ℕ) (call : Result Simplified Refusal × List ℕ) → ((a : Simplified) → call.0 ≡ Ok a → a.bytes ≤ 43008)
    → Few (of_simplified list values call.0 call.1)
unfolding Few of_simplified
listing_few list values call most = go _ refl
  where
    go : (s : Result Simplified Refusal) → call.0 ≡ s → Few (of_simplified list values s call.1)
    go (Ok a) e = omega (arith, most a e, length-take a.bytes call.1)
    go (Err why) e = tt

simplified_few : (traced : Bool) (room limit : ℕ) (list values out : List ℕ) → 43008 ≤ length out → Few (simplified_with traced room limit list values out)
simplified_few true room limit list values out h =
    listing_few list values (simplify_origins room limit list values out) (λ a e. simplify_origins_most room limit list values out h e)
simplified_few false room limit list values out h =
    listing_few list values (simplify_call room limit list values out) (λ a e. omega (arith, simplify_most room limit list values out (omega (arith, h)) e))

parted_few : (room : ℕ) (command : Parted) (list values out : List ℕ) → parted_shows command ≡ true → 43008 ≤ length out → Few (parted room command list values out)
unfolding parted parted_shows
parted_few room (Parted.Evaluate shown) list values out e h = evaluated_few (missing_in_job room list values) list values (evaluate_call room list values)
parted_few room (Parted.Simplify limit shown traced) list values out e h = simplified_few traced room limit list values out h
parted_few room Parted.Played list values out e h = never e
parted_few room (Parted.Play shown) list values out e h = evaluated_few (missing_on_tape (tape_in list) values) list values (play_call (tape_in list) values)

command_few : (room : ℕ) (command : Command) (input out : List ℕ) → shows command ≡ true → 43008 ≤ length out → Few (result_in room command input out)
unfolding result_in shows
command_few room (Command.Whole command) input out e h = never e
command_few room (Command.Parted command) input out e h = parted_few room command (listing_in input) (sheet_in input) out e h

result_few : (command : Command) (input out : List ℕ) → shows command ≡ true → 43008 ≤ length out → Few (result_for command input out)
unfolding result_for Few
result_few command input out e h = go (ltb 262144 (length input))
  where
    go : (b : Bool) → Few (cond b too_long (result_in 4096 command input out))
    go true = tt
    go false = command_few 4096 command input out e h

pub shown_short : (command : Command) (input out : List ℕ) {shown : Bool} {o : Outcome} {out' : List ℕ} → Comes (result_for command input out) o out' → shown ≡ shows command
    → 65536 ≤ length out → shown ≡ true → Short o
shown_short command input out {shown} {o} {out'} c e h t =
    few_short out' o c.inside (subst Few (sym c.answer) (result_few command input out (sym e ∙ t) (omega (arith, h))))
