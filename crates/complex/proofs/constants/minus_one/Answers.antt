-- `complex::constants::minus_one` meets its contract: the bits of a negated 1 and a negated 0. Assumes nothing.
use Rattle.std.proofs.Common.{refl}
use lib.Ieee.{neg, of_bits}
use Rattle.complex.proofs.constants.minus_one.Goals as goal

pub returns : goal.returns
unfolding neg of_bits
returns c = refl
