-- `fields_at` meets its contract: a word each. Assumes nothing.
use mathlib.Core.Path.{refl}
use Rattle.store.specs.Memory.{fields_on}
use Rattle.store.proofs.reading.fields_at.Goals as goal

pub returns : goal.returns
unfolding fields_on
returns c = rw (c.code_in.ensures, c.tag_at.ensures, c.first_at.ensures, c.second_at.ensures) refl
