-- `text_length` meets its contract. Assumes nothing.
use native.Mathlib.Omega.{arith}
use Rattle.store.specs.Memory.{memory}
use Rattle.writing.proofs.AllText.{no_length, more_length}
use Rattle.writing.proofs.lines.text_length.Goals as goal

pub loop-i-init : goal.loop-i-init
loop-i-init g c = (no_length _, omega arith)

pub loop-i-preserved : goal.loop-i-preserved
loop-i-preserved g c = (
  omega (arith, more_length (g.L.Lines.bytes (memory c.args.store.now) c.args.table.now) c.loop-i.i, c.loop-i.invariant.0, c.measure-total.ensures.size),
  omega (arith, c.measure-total.ensures.short, c.loop-i.invariant.1),
)
