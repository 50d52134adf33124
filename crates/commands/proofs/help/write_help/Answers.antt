-- `write_help` meets its contract. Assumes nothing.
use native.Mathlib.Omega.{arith}
use Rattle.console.proofs.Lines.{put_counts}
use Rattle.commands.proofs.help.write_help.Goals as goal

pub returns : goal.returns
returns c = record { put = c.write_bytes.ensures; within = put_counts c.write_bytes.ensures (omega (arith, c.requires)) }
