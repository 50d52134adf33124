-- `number_at` meets its contract. Assumes nothing.
use mathlib.Core.Path.{refl}
use Rattle.sheet.proofs.number_at.Goals as goal

pub returns : goal.returns
returns c = rw (c.from_bits.ensures, c.from_bits-2.ensures, c.read.ensures, c.read-2.ensures) refl
