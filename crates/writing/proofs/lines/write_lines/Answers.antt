-- `write_lines` meets its contract. Assumes nothing.
use native.Mathlib.Omega.{arith}
use Rattle.store.specs.Memory.{memory}
use Rattle.text.proofs.Putting.{put_length}
use Rattle.writing.proofs.AllText.{no_text, line_fits, next_text}
use Rattle.writing.proofs.lines.write_lines.Goals as goal

pub loop-i-init : goal.loop-i-init
loop-i-init g c = no_text _ _

pub write-at-requires : goal.write-at-requires
write-at-requires g c = omega (arith, line_fits (g.L.Lines.bytes (memory c.args.store.now) c.args.table.now) c.loop-i.i c.args.count _ c.loop-i-test.true c.requires, c.loop-i.invariant.place, put_length c.loop-i.invariant)

pub loop-i-preserved : goal.loop-i-preserved
loop-i-preserved g c = next_text _ c.loop-i.i c.loop-i.invariant c.write-at.ensures
