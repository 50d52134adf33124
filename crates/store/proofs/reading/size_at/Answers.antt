-- `size_at` meets its contract: a field of the word. Assumes nothing.
use mathlib.Core.Path.{refl}
use Rattle.store.specs.Memory.{size_on}
use Rattle.store.proofs.reading.size_at.Goals as goal

pub returns : goal.returns
unfolding size_on
returns c = rw (c.size_in.ensures, c.tag_at.ensures) refl
