-- `complex::bits::class_of_bits` meets its contract. Assumes nothing.
use Rattle.std.proofs.Common.{eq-eqb, ne_eqb}
use Rattle.complex.specs.Classes.{class_of_bits}
use Rattle.complex.proofs.bits.class_of_bits.Goals as goal

pub returns-then-bits-eq-SIGN : goal.returns-then-bits-eq-SIGN
unfolding class_of_bits
returns-then-bits-eq-SIGN c = simp (eq-eqb _ _ c.if-bits-eq-SIGN.true)

pub returns : goal.returns
unfolding class_of_bits
returns c = simp (ne_eqb _ _ c.if-bits-eq-SIGN.false)
