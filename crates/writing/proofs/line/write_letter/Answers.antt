-- `write_letter` meets its contract. Assumes nothing.
use native.Mathlib.Omega.{arith}
use Rattle.text.proofs.Putting.{put_then, put_length}
use Rattle.writing.proofs.line.write_letter.Goals as goal

pub write_byte-next-requires : goal.write_byte-next-requires
write_byte-next-requires c = omega (arith, c.requires)

pub write_byte-requires : goal.write_byte-requires
write_byte-requires c = omega (arith, c.requires, c.write_byte-next.ensures.place, put_length c.write_byte-next.ensures)

pub returns : goal.returns
returns c = put_then c.write_byte-next.ensures c.write_byte.ensures
