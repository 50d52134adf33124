-- `complex::ComplexMul::mul` meets its contract: it computes the definition of the product as it stands. Assumes nothing.
use Rattle.std.proofs.Common.{refl}
use Rattle.complex.specs.Arithmetic.{times}
use Rattle.complex.proofs.ComplexMul.mul.Goals as goal

pub returns : goal.returns
unfolding times
returns c = refl
