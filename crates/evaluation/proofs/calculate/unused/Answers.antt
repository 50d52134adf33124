-- `unused` meets its contract. Assumes nothing.
use mathlib.Core.Path.{refl}
use Rattle.memory.specs.Layout.{numbered}
use Rattle.evaluation.proofs.calculate.unused.Goals as goal

pub returns : goal.returns
unfolding numbered
returns c = (refl, refl, refl)
