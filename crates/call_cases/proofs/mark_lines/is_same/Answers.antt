-- `call_cases::marks::is_same` meets its contract: the rows before the place are marked as the line says. Assumes nothing.
use Rattle.replay.proofs.Judging.{none_yet}
use Rattle.call_cases.proofs.Marking.{no_line, row_more, row_no, rows_yes}
use Rattle.call_cases.proofs.mark_lines.is_same.Goals as goal

pub returns-then-line-ne10 : goal.returns-then-line-ne10
returns-then-line-ne10 c = no_line c.args.line.now c.args.marks.now c.if-line-ne10.true

pub loop-row-init : goal.loop-row-init
loop-row-init c = none_yet _

pub returns-then-mark-mark_in : goal.returns-then-mark-mark_in
returns-then-mark-mark_in c = row_no c.args.line.now c.args.marks.now c.loop-row.row _ _ c.digit.ensures c.mark_in.ensures c.loop-row-test.true c.if-mark-mark_in.true

pub loop-row-preserved : goal.loop-row-preserved
loop-row-preserved c = row_more c.args.line.now c.args.marks.now c.loop-row.row _ _ c.digit.ensures c.mark_in.ensures c.loop-row.invariant c.if-mark-mark_in.false

pub returns : goal.returns
returns c = rows_yes c.args.line.now c.args.marks.now c.loop-row.row c.loop-row-test.false c.if-line-ne10.false c.loop-row.invariant
