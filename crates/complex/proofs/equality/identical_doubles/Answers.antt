-- `complex::equality::identical_doubles` meets its contract: the bits are compared. Assumes nothing.
use Rattle.std.proofs.Common.{eqb}
use Rattle.complex.specs.Equality.{identical_doubles}
use Rattle.complex.proofs.equality.identical_doubles.Goals as goal

pub returns : goal.returns
unfolding identical_doubles
returns c = λ i. eqb (c.to_bits.ensures i) (c.to_bits-2.ensures i)
