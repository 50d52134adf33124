-- `read` meets its contract: past the end there is 0. Assumes nothing.
use mathlib.Core.Path.{sym}
use Rattle.memory.proofs.Slices.{get_or_out}
use Rattle.memory.proofs.read.Goals as goal

pub returns-else-i-s : goal.returns-else-i-s
returns-else-i-s c = sym (get_or_out c.args.s.now c.args.i 0 c.if-i-s.false)
