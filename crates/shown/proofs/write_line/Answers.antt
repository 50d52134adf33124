-- `write_line` meets its contract: the number, and then the fields. Assumes nothing.
use native.Mathlib.Omega.{arith}
use Rattle.text.proofs.Putting.{put_length}
use Rattle.shown.proofs.Pieces.{decimal_few, decimal_goes, line_told}
use Rattle.shown.proofs.write_line.Goals as goal

pub write_decimal_field-p-requires : goal.write_decimal_field-p-requires
write_decimal_field-p-requires c = omega (arith, c.requires, decimal_few c.args.k 9 c.ranges.k.fits)

pub write_fields-requires : goal.write_fields-requires
write_fields-requires c = omega (arith, c.requires, decimal_goes c.args.k 9 c.ranges.k.fits c.write_decimal_field-p.ensures, put_length c.write_decimal_field-p.ensures)

pub returns : goal.returns
returns c = line_told _ c.ranges.k.fits c.write_decimal_field-p.ensures c.write_fields.ensures
