-- `put_cell` meets its contract. Assumes nothing.
use mathlib.Core.Path.{refl}
use Rattle.sheet.specs.Table.{with_cell}
use Rattle.sheet.proofs.layout.put_cell.Goals as goal

pub returns : goal.returns
unfolding with_cell
returns c = rw (c.put-2.ensures, c.put.ensures, c.canonical.ensures) refl
