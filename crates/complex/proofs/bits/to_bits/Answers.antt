-- `complex::bits::to_bits` meets its contract: what differs from itself is the NaN. Assumes nothing.
use Rattle.std.proofs.Common.{sym, ap, ◌∙◌}
use Rattle.complex.specs.Bits.{bits_of}
use Rattle.complex.proofs.Doubles.{bits_of_nan, differs, agrees}
use Rattle.complex.proofs.bits.to_bits.Goals as goal

pub returns-then-x : goal.returns-then-x
returns-then-x c = sym (ap bits_of (differs c.args.x c.if-x.true) ∙ bits_of_nan)

pub float_to_bits-result : goal.float_to_bits-result
float_to_bits-result c = agrees c.args.x c.if-x.false
