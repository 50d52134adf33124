-- `complex::parts::part_of` meets its contract: at least 11 of the digits' 64 bits are leading zeros, and the shift by what is past 11 moves
-- the highest set bit to bit 52. Assumes nothing.
use Rattle.std.proofs.Common.{◌-◌, ◌*◌, ◌%◌, ◌^◌, arith}
use lib.Count.{leading_le}
use Rattle.complex.proofs.Scaling.{eleven, digits_lt, scaled_bits}
use Rattle.complex.proofs.parts.part_of.Goals as goal

pub overflow_cast-zeros : goal.overflow_cast-zeros
overflow_cast-zeros c = omega (arith, leading_le 64 (c.args.bits % 2 ^ 63 - c.saturating_sub-exponent.result * 2 ^ 52))

pub overflow_sub-result : goal.overflow_sub-result
overflow_sub-result c = eleven (c.args.bits % 2 ^ 63 - c.saturating_sub-exponent.result * 2 ^ 52) (digits_lt (c.args.bits % 2 ^ 63) c.saturating_sub-exponent.result c.saturating_sub-exponent.ensures)

pub overflow_shl-result : goal.overflow_shl-result
overflow_shl-result c = omega (arith, leading_le 64 (c.args.bits % 2 ^ 63 - c.saturating_sub-exponent.result * 2 ^ 52))

pub overflow_sub-result-2 : goal.overflow_sub-result-2
overflow_sub-result-2 c = leading_le 64 (c.args.bits % 2 ^ 63 - c.saturating_sub-exponent.result * 2 ^ 52)

pub returns : goal.returns
returns c = scaled_bits (c.args.bits % 2 ^ 63) c.saturating_sub-exponent.result c.saturating_sub-exponent.ensures
