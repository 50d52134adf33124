-- `need_on` meets its contract: what five words say. Assumes nothing.
use mathlib.Core.Path.{refl}
use Rattle.store.specs.Desk.{need_on}
use Rattle.store.proofs.desk.need_on.Goals as goal

pub returns : goal.returns
unfolding need_on
returns c = rw (c.from_code-operation.ensures, c.from_bits.ensures, c.from_bits-2.ensures, c.from_bits-3.ensures, c.from_bits-4.ensures) refl
