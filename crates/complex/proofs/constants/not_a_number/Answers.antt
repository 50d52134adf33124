-- `complex::constants::not_a_number` meets its contract: 0.0 / 0.0 is the NaN. Assumes nothing.
use Rattle.std.proofs.Common.{refl}
use lib.Ieee.{div, of_bits}
use Rattle.complex.proofs.constants.not_a_number.Goals as goal

pub returns : goal.returns
unfolding div of_bits
returns c = refl
