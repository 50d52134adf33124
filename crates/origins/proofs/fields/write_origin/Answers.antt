-- `write_origin` meets its contract. Assumes nothing.
use native.Mathlib.Omega.{arith}
use Rattle.text.proofs.Putting.{put_length}
use Rattle.origins.proofs.Lengths.{text_long, some_length}
use Rattle.origins.proofs.Writing.{none_put, some_put}
use Rattle.origins.proofs.fields.write_origin.Goals as goal

pub write_byte-next-requires : goal.write_byte-next-requires
write_byte-next-requires c = omega (arith, c.requires, text_long c.args.origin)

pub write_byte-requires : goal.write_byte-requires
write_byte-requires c = omega (arith, c.requires, text_long c.args.origin, c.write_byte-next.ensures.place, put_length c.write_byte-next.ensures)

pub returns-then-origin-eq0 : goal.returns-then-origin-eq0
returns-then-origin-eq0 c = none_put c.write_byte-next.ensures c.if-origin-eq0.true c.write_byte.ensures

pub write_decimal-requires : goal.write_decimal-requires
write_decimal-requires c = omega (arith, c.requires, some_length c.args.origin c.if-origin-eq0.false, c.write_byte-next.ensures.place, put_length c.write_byte-next.ensures)

pub returns : goal.returns
returns c = some_put c.write_byte-next.ensures c.if-origin-eq0.false c.write_decimal.ensures
