-- `write_pi` meets its contract. Assumes nothing.
use native.Mathlib.Omega.{arith}
use Rattle.text.proofs.Putting.{put_then, put_length}
use Rattle.writing.proofs.LineTexts.{pi_text, pi_length}
use Rattle.writing.proofs.line.write_pi.Goals as goal

pub write_byte-p-requires : goal.write_byte-p-requires
write_byte-p-requires c = omega (arith, c.requires, pi_length)

pub write_byte-requires : goal.write_byte-requires
write_byte-requires c = omega (arith, c.requires, pi_length, c.write_byte-p.ensures.place, put_length c.write_byte-p.ensures)

pub returns : goal.returns
returns c = rw (pi_text) (put_then c.write_byte-p.ensures c.write_byte.ensures)
