-- `words_of` meets its contract. Assumes nothing.
use mathlib.Core.Path.{refl}
use Rattle.sheet.proofs.search.words_of.Goals as goal

pub returns : goal.returns
returns c = rw (c.to_bits.ensures, c.to_bits-2.ensures) refl
