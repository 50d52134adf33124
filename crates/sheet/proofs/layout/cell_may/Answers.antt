-- `cell_may` meets its contract: each test picks its case. Assumes nothing.
use Rattle.sheet.proofs.Ordering.{cells_after_rows, first_cell, next_cell}
use Rattle.sheet.proofs.layout.cell_may.Goals as goal

pub returns-then-counts-gt0 : goal.returns-then-counts-gt0
returns-then-counts-gt0 c = cells_after_rows c.args.table.now c.args.counts _ c.if-counts-gt0.true

pub returns-then-count-eq0 : goal.returns-then-count-eq0
returns-then-count-eq0 c = first_cell c.args.table.now c.args.counts _ c.if-counts-gt0.false c.if-count-eq0.true

pub returns : goal.returns
returns c = rw c.read.ensures (next_cell c.args.table.now c.args.counts _ c.if-counts-gt0.false c.if-count-eq0.false)
