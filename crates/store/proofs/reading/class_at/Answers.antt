-- `class_at` meets its contract: a field of the word. Assumes nothing.
use mathlib.Core.Path.{refl}
use Rattle.store.specs.Memory.{class_on}
use Rattle.store.proofs.reading.class_at.Goals as goal

pub returns : goal.returns
unfolding class_on
returns c = rw (c.class_in.ensures, c.link_at.ensures) refl
