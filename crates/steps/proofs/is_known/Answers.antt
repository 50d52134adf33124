-- `is_known` meets its contract: known fields are those of the step that they say. Assumes nothing.
use mathlib.Core.Path.{◌∙◌}
use Rattle.steps.specs.Same.{same}
use Rattle.steps.proofs.Knowing.{known_same}
use Rattle.steps.proofs.is_known.Goals as goal

pub returns : goal.returns
unfolding same
returns c = c.eq.ensures ∙ rw (c.fields_of.ensures, c.step_of.ensures) (known_same _)
