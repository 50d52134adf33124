-- `set_calls` meets its contract: a word of the desk. Assumes nothing.
use mathlib.Core.Path.{refl}
use Rattle.store.specs.Desk.{with_calls}
use Rattle.store.proofs.desk.set_calls.Goals as goal

pub returns : goal.returns
unfolding with_calls
returns c = refl
