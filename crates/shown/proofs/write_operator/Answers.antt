-- `write_operator` meets its contract. Assumes nothing.
use Rattle.text.proofs.Putting.{put_then}
use Rattle.shown.proofs.write_operator.Goals as goal

pub returns : goal.returns
returns c = put_then c.write_bytes-p.ensures (put_then c.write_byte-q.ensures c.write_byte.ensures)
