-- `operands_at` meets its contract: those that the fields say. Assumes nothing.
use mathlib.Core.Path.{refl}
use Rattle.store.specs.Memory.{expression_at}
use Rattle.store.proofs.reading.operands_at.Goals as goal

pub returns : goal.returns
unfolding expression_at
returns c = rw (c.operands_in.ensures, c.fields_at.ensures) refl
