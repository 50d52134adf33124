-- `calls_made` meets its contract: a word of the desk. Assumes nothing.
use mathlib.Core.Path.{refl}
use Rattle.store.specs.Desk.{calls_on}
use Rattle.store.proofs.desk.calls_made.Goals as goal

pub returns : goal.returns
unfolding calls_on
returns c = refl
