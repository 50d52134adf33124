-- `stand` meets its contract: a word of the desk. Assumes nothing.
use mathlib.Core.Path.{refl}
use Rattle.store.specs.Desk.{with_count}
use Rattle.store.proofs.desk.stand.Goals as goal

pub returns : goal.returns
unfolding with_count
returns c = refl
