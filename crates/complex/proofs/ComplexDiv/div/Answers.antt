-- `complex::ComplexDiv::div` meets its contract: it computes the definition of the quotient as it stands. Assumes nothing.
use Rattle.std.proofs.Common.{refl}
use Rattle.complex.specs.Arithmetic.{over}
use Rattle.complex.proofs.ComplexDiv.div.Goals as goal

pub returns : goal.returns
unfolding over
returns c = refl
