-- `replay::say::is_same_answer` meets its contract. Assumes nothing.
use mathlib.Core.Path.{◌∙◌}
use Rattle.replay.proofs.Judging.{same_long}
use Rattle.replay.proofs.say.is_same_answer.Goals as goal

pub returns : goal.returns
returns c = c.eq.ensures ∙ same_long 6 c.args.a.now c.args.b.now (search (c.told-a)) (search (c.told-b))
