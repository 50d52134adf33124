-- `write_memory` meets its contract: a word and two numbers. Assumes nothing.
use native.Mathlib.Omega.{arith}
use Rattle.text.proofs.Putting.{put_length}
use Rattle.shown.proofs.Pieces.{decimal_few, decimal_goes, memory_told}
use Rattle.shown.proofs.write_memory.Goals as goal

pub write_decimal_field-q-requires : goal.write_decimal_field-q-requires
write_decimal_field-q-requires c = omega (arith, c.requires, c.write_bytes-p.ensures.place, put_length c.write_bytes-p.ensures, decimal_few c.args.region 9 c.ranges.region.fits)

pub write_decimal_field-requires : goal.write_decimal_field-requires
write_decimal_field-requires c = omega (arith, c.requires, c.write_bytes-p.ensures.place, put_length c.write_bytes-p.ensures, decimal_goes c.args.region 9 c.ranges.region.fits c.write_decimal_field-q.ensures, put_length c.write_decimal_field-q.ensures, decimal_few c.args.index 10 c.ranges.index.fits)

pub returns : goal.returns
returns c = memory_told _ _ c.ranges.region.fits c.ranges.index.fits c.write_bytes-p.ensures c.write_decimal_field-q.ensures c.write_decimal_field.ensures
