-- `depth_at` meets its contract: a field of the word. Assumes nothing.
use mathlib.Core.Path.{refl}
use Rattle.store.specs.Memory.{depth_on}
use Rattle.store.proofs.reading.depth_at.Goals as goal

pub returns : goal.returns
unfolding depth_on
returns c = rw (c.depth_in.ensures, c.tag_at.ensures) refl
