-- `complex::bits::from_bits` meets its contract: bits past the infinity's, the sign left out, are a NaN's. Assumes nothing.
use Rattle.std.proofs.Common.{◌%◌, ◌^◌, Bool, not, T, sym, ◌∙◌, subst, le-ltb, lt-ltb}
use lib.Ieee.{binary64}
use lib.Ieee.Bits.{nan_bits_above}
use Rattle.complex.specs.Bits.{double_of}
use Rattle.complex.proofs.Doubles.{is_nan_lem, nan_above, zero_over_zero}
use Rattle.complex.proofs.bits.from_bits.Goals as goal

pub returns-then-bits-gt-INFINITY_BITS : goal.returns-then-bits-gt-INFINITY_BITS
returns-then-bits-gt-INFINITY_BITS c =
    let b = c.args.bits in
    zero_over_zero ∙ is_nan_lem (double_of b) (subst T (sym (nan_above b ∙ lt-ltb 0x7FF0_0000_0000_0000 (b % 2 ^ 63) c.if-bits-gt-INFINITY_BITS.true)) tt)

pub float_from_bits-result : goal.float_from_bits-result
float_from_bits-result c =
    let b = c.args.bits in
    subst (λ (t : Bool). T (not t)) (sym (nan_bits_above binary64 b ∙ le-ltb 0x7FF0_0000_0000_0000 (b % 2 ^ 63) c.if-bits-gt-INFINITY_BITS.false)) tt
