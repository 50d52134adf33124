-- `write_value` meets its contract. Assumes nothing.
use Rattle.text.proofs.Putting.{put_then}
use Rattle.console.proofs.Lines.{put_line, value_text, value_short}
use Rattle.console.proofs.line.write_value.Goals as goal

pub returns : goal.returns
returns c = record { put = (put_line (rw (value_text c.args.z) (put_then c.write_bytes-next.ensures c.write_parts.ensures)) (value_short c.args.z) c.requires).0; within = (put_line (rw (value_text c.args.z) (put_then c.write_bytes-next.ensures c.write_parts.ensures)) (value_short c.args.z) c.requires).1 }
