-- `is_allowed` meets its contract. Assumes nothing.
use mathlib.Core.Path.{refl}
use Rattle.tasks.specs.Tasks.{is_allowed}
use Rattle.tasks.proofs.limit.Limit.is_allowed.Goals as goal

pub returns : goal.returns
unfolding is_allowed
returns c = refl
