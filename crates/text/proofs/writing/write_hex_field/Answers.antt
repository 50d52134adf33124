-- `write_hex_field` meets its contract. Assumes nothing.
use Rattle.std.proofs.Common.{arith}
use Rattle.text.proofs.Putting.{put_then, put_length, hex_length}
use Rattle.text.proofs.writing.write_hex_field.Goals as goal

pub write_hex-next-requires : goal.write_hex-next-requires
write_hex-next-requires c = omega (arith, c.requires)

pub write_byte-requires : goal.write_byte-requires
write_byte-requires c = omega (arith, c.requires, c.write_hex-next.ensures.place, hex_length c.args.n, put_length c.write_hex-next.ensures)

pub returns : goal.returns
returns c = put_then c.write_hex-next.ensures c.write_byte.ensures
