-- `write_variable` meets its contract: a word and a number. Assumes nothing.
use native.Mathlib.Omega.{arith}
use Rattle.text.proofs.Putting.{put_length}
use Rattle.shown.proofs.Pieces.{decimal_few, variable_told}
use Rattle.shown.proofs.write_variable.Goals as goal

pub write_decimal_field-requires : goal.write_decimal_field-requires
write_decimal_field-requires c = omega (arith, c.requires, c.write_bytes-p.ensures.place, put_length c.write_bytes-p.ensures, decimal_few c.args.number 10 c.ranges.number.fits)

pub returns : goal.returns
returns c = variable_told _ c.ranges.number.fits c.write_bytes-p.ensures c.write_decimal_field.ensures
