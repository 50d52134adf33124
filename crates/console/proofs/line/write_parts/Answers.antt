-- `write_parts` meets its contract. Assumes nothing.
use mathlib.Core.List.{[], ◌∷◌}
use native.Mathlib.Omega.{arith}
use lib.ListN.{length-append}
use Rattle.text.specs.Writing.{in_hex}
use Rattle.text.proofs.Putting.{put_then, put_length, hex_length}
use Rattle.console.proofs.line.write_parts.Goals as goal

pub write_hex_field-requires : goal.write_hex_field-requires
write_hex_field-requires c = omega (arith, c.requires, c.write_hex_field-next.ensures.place, put_length c.write_hex_field-next.ensures, hex_length c.to_bits.result, length-append (in_hex c.to_bits.result) (9 ∷ []))

pub returns : goal.returns
returns c = rw (← c.to_bits.ensures, ← c.to_bits-2.ensures) (put_then c.write_hex_field-next.ensures c.write_hex_field.ensures)
