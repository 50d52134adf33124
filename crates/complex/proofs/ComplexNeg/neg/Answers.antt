-- `complex::ComplexNeg::neg` meets its contract: it computes the definition of the negation as it stands. Assumes nothing.
use Rattle.std.proofs.Common.{refl}
use Rattle.complex.specs.Arithmetic.{negated}
use Rattle.complex.proofs.ComplexNeg.neg.Goals as goal

pub returns : goal.returns
unfolding negated
returns c = refl
