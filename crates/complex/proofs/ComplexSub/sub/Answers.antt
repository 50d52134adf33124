-- `complex::ComplexSub::sub` meets its contract: it computes the definition of the difference as it stands. Assumes nothing.
use Rattle.std.proofs.Common.{refl}
use Rattle.complex.specs.Arithmetic.{minus}
use Rattle.complex.proofs.ComplexSub.sub.Goals as goal

pub returns : goal.returns
unfolding minus
returns c = refl
