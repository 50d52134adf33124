-- `write_real` meets its contract. Assumes nothing.
use Rattle.text.proofs.Putting.{put_then}
use Rattle.console.proofs.Lines.{put_line, real_text, real_short}
use Rattle.console.proofs.line.write_real.Goals as goal

pub returns : goal.returns
returns c = record { put = (put_line (rw (real_text c.args.x, ← c.to_bits.ensures) (put_then c.write_bytes-next.ensures c.write_hex_field.ensures)) (real_short c.args.x) c.requires).0; within = (put_line (rw (real_text c.args.x, ← c.to_bits.ensures) (put_then c.write_bytes-next.ensures c.write_hex_field.ensures)) (real_short c.args.x) c.requires).1 }
