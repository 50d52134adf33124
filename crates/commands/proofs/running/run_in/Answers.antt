-- `run_in` meets its contract. Assumes nothing.
use native.Mathlib.Omega.{arith}
use mathlib.Core.Path.{sym}
use lib.ListN.{replicate, length-replicate}
use Rattle.commands.proofs.Rooms.{in_so_many}
use Rattle.commands.proofs.running.run_in.Goals as goal

pub whole_as_slice-run_lent : goal.whole_as_slice-run_lent
whole_as_slice-run_lent g c = omega (arith, c.requires.few)

pub returns : goal.returns
returns g c = in_so_many c.args.command c.args.input.now c.args.out.now (replicate g.row.ROWS (replicate 4 0)) c.requires.few (sym (length-replicate g.row.ROWS _)) c.run_lent.ensures
