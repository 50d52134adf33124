-- `write_number` meets its contract. Assumes nothing.
use mathlib.Core.List.{[], ◌∷◌}
use native.Mathlib.Omega.{arith}
use lib.ListN.{length-append}
use Rattle.text.specs.Writing.{in_hex}
use Rattle.text.proofs.Putting.{put_then, put_length, hex_length}
use Rattle.writing.proofs.LineTexts.{number_text, number_length}
use Rattle.writing.proofs.line.write_number.Goals as goal

pub write_letter-p-requires : goal.write_letter-p-requires
write_letter-p-requires c = omega (arith, c.requires, number_length c.args.z)

pub write_hex_field-q-requires : goal.write_hex_field-q-requires
write_hex_field-q-requires c = omega (arith, c.requires, number_length c.args.z, c.write_letter-p.ensures.place, put_length c.write_letter-p.ensures)

pub write_hex_field-requires : goal.write_hex_field-requires
write_hex_field-requires c = omega (arith, c.requires, number_length c.args.z, c.write_letter-p.ensures.place, put_length c.write_letter-p.ensures, c.write_hex_field-q.ensures.place, put_length c.write_hex_field-q.ensures, hex_length c.to_bits.result, length-append (in_hex c.to_bits.result) (9 ∷ []))

pub returns : goal.returns
returns c = rw (number_text c.args.z, ← c.to_bits.ensures, ← c.to_bits-2.ensures) (put_then c.write_letter-p.ensures (put_then c.write_hex_field-q.ensures c.write_hex_field.ensures))
