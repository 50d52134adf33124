-- `write_row` meets its contract. Assumes nothing.
use mathlib.Core.Path.{refl}
use Rattle.sheet.specs.Table.{with_row}
use Rattle.sheet.proofs.layout.write_row.Goals as goal

pub returns : goal.returns
unfolding with_row
returns c = rw (c.put_number-3.ensures, c.put_number-2.ensures, c.put_number.ensures, c.put.ensures) refl
