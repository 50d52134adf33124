-- `canonical` meets its contract. Assumes nothing.
use mathlib.Core.Path.{refl}
use Rattle.sheet.proofs.layout.canonical.Goals as goal

pub returns : goal.returns
returns c = rw (c.to_bits.ensures, c.from_bits.ensures) refl
