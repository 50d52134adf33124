-- `put_variable` meets its contract. Assumes nothing.
use mathlib.Core.Path.{refl}
use Rattle.sheet.specs.Table.{with_variable}
use Rattle.sheet.proofs.layout.put_variable.Goals as goal

pub returns : goal.returns
unfolding with_variable
returns c = rw (c.put_number.ensures, c.put.ensures) refl
