-- `expression_at` meets its contract: the fields as an expression. Assumes nothing.
use mathlib.Core.Path.{refl}
use Rattle.store.specs.Memory.{expression_at}
use Rattle.store.proofs.reading.expression_at.Goals as goal

pub returns : goal.returns
unfolding expression_at
returns c = rw (c.expression_of.ensures, c.fields_at.ensures) refl
