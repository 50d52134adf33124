-- `replay::say::is_right` meets its contract: what it prints does not change its answer. Assumes nothing.
use mathlib.Core.Path.{sym, ◌∙◌}
use Rattle.replay.proofs.say.is_right.Goals as goal

pub returns-then-is_same_answer : goal.returns-then-is_same_answer
returns-then-is_same_answer g c = sym c.if-is_same_answer.true ∙ c.is_same_answer.ensures

pub returns : goal.returns
returns g c = sym c.if-is_same_answer.false ∙ c.is_same_answer.ensures
