-- `write_number` meets its contract: a word and the bits of two doubles. Assumes nothing.
use native.Mathlib.Omega.{arith}
use Rattle.text.proofs.Putting.{put_length}
use Rattle.shown.proofs.Pieces.{hex_goes, number_told}
use Rattle.shown.proofs.write_number.Goals as goal

pub write_hex_field-requires : goal.write_hex_field-requires
write_hex_field-requires c = omega (arith, c.requires, c.write_bytes-p.ensures.place, put_length c.write_bytes-p.ensures, hex_goes _ 9 c.write_hex_field-q.ensures, put_length c.write_hex_field-q.ensures)

pub returns : goal.returns
returns c = number_told _ c.to_bits.ensures c.to_bits-2.ensures c.write_bytes-p.ensures c.write_hex_field-q.ensures c.write_hex_field.ensures
