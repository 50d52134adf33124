-- `standing` meets its contract: a word of the desk. Assumes nothing.
use mathlib.Core.Path.{refl}
use Rattle.store.specs.Desk.{count}
use Rattle.store.proofs.desk.standing.Goals as goal

pub returns : goal.returns
unfolding count
returns c = refl
