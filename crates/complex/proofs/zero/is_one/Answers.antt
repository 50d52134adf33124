-- `complex::zero::is_one` meets its contract. Assumes nothing.
use Rattle.complex.specs.Zero.{is_one}
use Rattle.complex.proofs.zero.is_one.Goals as goal

pub returns : goal.returns
unfolding is_one
returns c = c.is_zero.ensures
