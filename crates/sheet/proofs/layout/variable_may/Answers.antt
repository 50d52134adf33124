-- `variable_may` meets its contract: each test picks its case. Assumes nothing.
use Rattle.sheet.proofs.Ordering.{after_cells, after_rows, first_variable, next_variable}
use Rattle.sheet.proofs.layout.variable_may.Goals as goal

pub returns-then-counts-gt0 : goal.returns-then-counts-gt0
returns-then-counts-gt0 c = after_cells c.args.table.now c.args.counts _ c.if-counts-gt0.true

pub returns-then-counts-gt0-2 : goal.returns-then-counts-gt0-2
returns-then-counts-gt0-2 c = after_rows c.args.table.now c.args.counts _ c.if-counts-gt0.false c.if-counts-gt0-2.true

pub returns-then-count-eq0 : goal.returns-then-count-eq0
returns-then-count-eq0 c = first_variable c.args.table.now c.args.counts _ c.if-counts-gt0.false c.if-counts-gt0-2.false c.if-count-eq0.true

pub returns : goal.returns
returns c = rw c.read.ensures (next_variable c.args.table.now c.args.counts _ c.if-counts-gt0.false c.if-counts-gt0-2.false c.if-count-eq0.false)
