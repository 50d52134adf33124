-- `complex::ComplexAdd::add` meets its contract: it computes the definition of the sum as it stands. Assumes nothing.
use Rattle.std.proofs.Common.{refl}
use Rattle.complex.specs.Arithmetic.{plus}
use Rattle.complex.proofs.ComplexAdd.add.Goals as goal

pub returns : goal.returns
unfolding plus
returns c = refl
