-- `write_lines_wide` meets its contract. Assumes nothing.
use native.Mathlib.Omega.{arith}
use Rattle.store.specs.Memory.{memory}
use Rattle.text.proofs.Putting.{put_length}
use Rattle.writing.proofs.LineTexts.{row_line}
use Rattle.writing.proofs.AllText.{no_text, next_text, all_written}
use Rattle.writing.proofs.write_lines_wide.Goals as goal

pub loop-i-init : goal.loop-i-init
loop-i-init c = (no_text _ _, omega arith)

pub write_row-at-requires : goal.write_row-at-requires
write_row-at-requires c = omega (arith, c.loop-i.invariant.1, put_length c.loop-i.invariant.0, c.requires.1)

pub loop-i-preserved : goal.loop-i-preserved
loop-i-preserved c = (next_text _ c.loop-i.i c.loop-i.invariant.0 (rw (row_line (memory c.args.store.now) c.args.table.now c.loop-i.i c.fields_at.ensures c.read-node.ensures) at c.write_row-at.ensures.put), omega (arith, c.write_row-at.ensures.short, c.loop-i.invariant.1))

pub shape_of-out : goal.shape_of-out
shape_of-out c = put_length c.loop-i.invariant.0

pub returns : goal.returns
returns c = record { put = all_written _ c.loop-i.auto.i-end c.loop-i-test.false c.loop-i.invariant.0; fits = omega (arith, c.loop-i.invariant.1, c.loop-i.auto.i-end) }
