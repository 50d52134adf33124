-- `complex::bits::class_of` meets its contract. Assumes nothing.
use Rattle.std.proofs.Common.{ap, ◌∙◌}
use Rattle.complex.specs.Classes.{class_of, class_of_bits}
use Rattle.complex.proofs.bits.class_of.Goals as goal

pub returns : goal.returns
unfolding class_of
returns c = c.class_of_bits.ensures ∙ ap class_of_bits c.to_bits.ensures
