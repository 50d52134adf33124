-- `write_decimal_field` meets its contract. Assumes nothing.
use Rattle.std.proofs.Common.{[], ◌∷◌, arith, length-append}
use Rattle.text.specs.Writing.{in_decimal}
use Rattle.text.proofs.Putting.{put_then, put_length}
use Rattle.text.proofs.writing.write_decimal_field.Goals as goal

pub write_decimal-next-requires : goal.write_decimal-next-requires
write_decimal-next-requires c = omega (arith, c.requires, length-append (in_decimal c.args.n) (c.args.stop ∷ []))

pub write_byte-requires : goal.write_byte-requires
write_byte-requires c = omega (arith, c.requires, length-append (in_decimal c.args.n) (c.args.stop ∷ []), c.write_decimal-next.ensures.place, put_length c.write_decimal-next.ensures)

pub returns : goal.returns
returns c = put_then c.write_decimal-next.ensures c.write_byte.ensures
