-- `linked` meets its contract. Assumes nothing.
use mathlib.Core.Path.{refl}
use Rattle.sheet.specs.Index.{linked}
use Rattle.sheet.proofs.index.linked.Goals as goal

pub returns : goal.returns
unfolding linked
returns c = rw c.link_of.ensures refl
