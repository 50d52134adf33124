-- What a command comes to with the rows that it used, and what a job prints and says, whatever its words. Only connecting.
use Rattle.std.specs.Prelude.{◌≡◌, ℕ, Bool, cond, List, take, Result}
use Rattle.expression.specs.declared.refusal.Refusal.{Refusal}
use Rattle.io.specs.Counts.{IsPrefixLen}
use Rattle.outcomes.specs.Outcomes as Outcomes
use Rattle.outcomes.specs.Outcomes.{output_with, said_with}
use Rattle.outcomes.specs.declared.Outcome.{Outcome}
use Rattle.outcomes.specs.Coming.{Comes}
use Rattle.commands.specs.declared.Printed.{Printed}
use Rattle.commands.specs.declared.words.Command.{Command}
use Rattle.commands.specs.Words.{shows, traces}
use Rattle.calls.specs.declared.Simplified.{Simplified}
use Rattle.calls.specs.Calls.{substitute_call, simplify_call}
use Rattle.calls.specs.Origins.{substitute_origins, simplify_origins}
use Rattle.commands.specs.Results.{result_for, marks_with, marks}

pub record ComesMarked (want : Outcomes.Result) (used : List ℕ) (r : Outcome) (out marks' : List ℕ) : Type 0 where
  pub comes : Comes want r out
  pub marked : marks' ≡ used

-- the call, with origins in the listing or without
pub record SimplifiesWith (traced : Bool) (room limit : ℕ) (list values out : List ℕ) (r : Result Simplified Refusal) (out' marks' : List ℕ) : Type 0 where
  pub answered : ◌≡◌ {A = Result Simplified Refusal × List ℕ} (r, out') (cond traced (simplify_origins room limit list values out) (simplify_call room limit list values out))
  pub marked : marks' ≡ marks_with traced room limit list values out

abbrev pub SubstitutesWith : (traced : Bool) (room : ℕ) (list out : List ℕ) (r : Result ℕ Refusal) (out' : List ℕ) → Type 0
SubstitutesWith traced room list out r out' = ◌≡◌ {A = Result ℕ Refusal × List ℕ} (r, out') (cond traced (substitute_origins room list out) (substitute_call room list out))

pub record PrintsJob (command : Command) (input out : List ℕ) (r : Printed) (out' said' : List ℕ) : Type 0 where
  pub prints : take r.out out' ≡ output_with (shows command) (marks command input out) (result_for command input out)
  pub says : take r.said said' ≡ said_with (traces command) (marks command input out) (result_for command input out)
  pub printed_within : IsPrefixLen r.out out'
  pub said_within : IsPrefixLen r.said said'
