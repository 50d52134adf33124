-- The one form in which the writers of a step's fields say what they leave. Only connecting.
use Rattle.std.specs.Prelude.{ℕ, ◌+◌, ◌≤◌, List}
use Rattle.text.specs.Writing.{line}
use Rattle.text.specs.Put.{Put}
use Rattle.steps.specs.declared.Step.{Step}
use Rattle.shown.specs.Showing.{step_fields}

-- the step's fields stand from `at` on, in at most 49 bytes, and nothing else has changed
pub record Told (entry : List ℕ) (at : ℕ) (step : Step) (next : ℕ) (exit : List ℕ) : Type 0 where
  pub put : Put entry at (line (step_fields step)) next exit
  pub few : next ≤ at + 49
