-- `write_unknown` meets its contract. Assumes nothing.
use native.Mathlib.Omega.{arith}
use Rattle.console.proofs.Lines.{put_counts}
use Rattle.text.proofs.Putting.{put_then}
use Rattle.commands.proofs.help.write_unknown.Goals as goal

pub returns : goal.returns
returns c = let p = put_then c.write_bytes-p.ensures (put_then c.write_bytes-q.ensures c.write_bytes.ensures) in record { put = p; within = put_counts p (omega (arith, p.place, c.write_bytes-p.ensures.place, c.write_bytes-q.ensures.place, c.write_bytes.ensures.place, c.requires)) }
