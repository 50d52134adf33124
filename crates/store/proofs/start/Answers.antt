-- `start` meets its contract: no node stands where the desk is zero. Assumes nothing.
use mathlib.Core.Path.{refl}
use Rattle.store.proofs.Keeping.{starts}
use Rattle.store.proofs.start.Goals as goal

pub returns : goal.returns
returns c = starts refl
