-- `put_number` meets its contract. Assumes nothing.
use mathlib.Core.Path.{refl}
use Rattle.sheet.specs.Table.{with_number}
use Rattle.sheet.proofs.layout.put_number.Goals as goal

pub returns : goal.returns
unfolding with_number
returns c = rw (c.put-2.ensures, c.put.ensures, c.canonical.ensures, c.canonical-2.ensures) refl
