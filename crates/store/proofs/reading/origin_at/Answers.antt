-- `origin_at` meets its contract: a field of the word. Assumes nothing.
use mathlib.Core.Path.{refl}
use Rattle.store.specs.Memory.{origin_on}
use Rattle.store.proofs.reading.origin_at.Goals as goal

pub returns : goal.returns
unfolding origin_on
returns c = rw (c.origin_in.ensures, c.tag_at.ensures) refl
