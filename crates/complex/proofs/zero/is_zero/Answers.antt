-- `complex::zero::is_zero` meets its contract: each return is a law of `Decide`. Assumes nothing.
use Rattle.std.proofs.Common.{T, sym, subst}
use Rattle.complex.specs.Zero.{is_zero}
use Rattle.complex.proofs.Decide.{first_from_t, second_from_t, both_below_half, by_squares}
use Rattle.complex.proofs.zero.is_zero.Goals.{then-re-ge-T_BITS-via-then-re-ge-T_BITS, then-re-ge-T_BITS-via-else-re-ge-T_BITS+then-im-ge-T_BITS}
use Rattle.complex.proofs.zero.is_zero.Goals as goal

pub returns-then-re-ge-T_BITS : goal.returns-then-re-ge-T_BITS
unfolding is_zero
returns-then-re-ge-T_BITS c =
    elim c.then-re-ge-T_BITS.branch [
      | then-re-ge-T_BITS-via-then-re-ge-T_BITS w ↦
          first_from_t (record { fits_x = subst T (sym c.well_formed.0.1.1.0.1) tt; fits_y = subst T (sym c.well_formed.0.1.1.1.0.1) tt; bits_x = c.magnitude_bits-re.ensures; bits_y = c.magnitude_bits-im.ensures }) w.if-re-ge-T_BITS.true
      | then-re-ge-T_BITS-via-else-re-ge-T_BITS+then-im-ge-T_BITS w ↦
          second_from_t (record { fits_x = subst T (sym c.well_formed.0.1.1.0.1) tt; fits_y = subst T (sym c.well_formed.0.1.1.1.0.1) tt; bits_x = c.magnitude_bits-re.ensures; bits_y = c.magnitude_bits-im.ensures }) w.if-im-ge-T_BITS.true
    ]

pub returns-then-im-lt-HALF_T_BITS : goal.returns-then-im-lt-HALF_T_BITS
unfolding is_zero
returns-then-im-lt-HALF_T_BITS c = both_below_half (record { fits_x = subst T (sym c.well_formed.0.1.1.0.1) tt; fits_y = subst T (sym c.well_formed.0.1.1.1.0.1) tt; bits_x = c.magnitude_bits-re.ensures; bits_y = c.magnitude_bits-im.ensures }) c.if-re-lt-HALF_T_BITS.true c.if-im-lt-HALF_T_BITS.true

pub returns : goal.returns
unfolding is_zero
returns c =
    by_squares (record { fits_x = subst T (sym c.well_formed.0.1.1.0.1) tt; fits_y = subst T (sym c.well_formed.0.1.1.1.0.1) tt; bits_x = c.magnitude_bits-re.ensures; bits_y = c.magnitude_bits-im.ensures }) c.squares_below.result
    c.if-re-ge-T_BITS.false c.if-im-ge-T_BITS.false c.squares_below.ensures
