-- `take_cell` meets its contract: each return is a law of proofs/Taking. Assumes nothing.
use mathlib.Core.Path.{sym, ◌∙◌}
use native.Mathlib.Omega.{arith}
use Rattle.sheet.proofs.Taking.{refuses, cell_many, cell_malformed, cell_misplaced, cell_taken}
use Rattle.sheet.proofs.lines.take_cell.Goals as goal

pub line_number-line-requires : goal.line_number-line-requires
line_number-line-requires c = omega (arith, c.requires.1.variables, c.requires.1.cells, c.requires.1.functions)

pub returns-then-count-ge-MOST_CELLS : goal.returns-then-count-ge-MOST_CELLS
returns-then-count-ge-MOST_CELLS c = refuses (cell_many c.args.table.now c.args.counts c.line_number-line.result c.line_number-line.ensures _ _ c.if-count-ge-MOST_CELLS.true)

pub returns-in_default : goal.returns-in_default
returns-in_default c = refuses (cell_malformed c.args.table.now c.args.counts c.line_number-line.result c.line_number-line.ensures _ _ c.if-count-ge-MOST_CELLS.false (rw c.in_default.is at c.read_cell.ensures.0))

pub overflow_mul-key : goal.overflow_mul-key
overflow_mul-key c = omega (arith, rw c.in-Some.is at c.read_cell.ensures.1)

pub overflow_add-key : goal.overflow_add-key
overflow_add-key c = omega (arith, rw c.in-Some.is at c.read_cell.ensures.1)

pub cell_may-requires : goal.cell_may-requires
cell_may-requires c = c.requires.1

pub returns-then-not-cell_may : goal.returns-then-not-cell_may
returns-then-not-cell_may c = refuses (cell_misplaced c.args.table.now c.args.counts c.line_number-line.result c.line_number-line.ensures _ _ c.if-count-ge-MOST_CELLS.false (rw c.in-Some.is at c.read_cell.ensures.1).1 (rw c.in-Some.is at c.read_cell.ensures.0) (sym c.if-not-cell_may.true ∙ c.cell_may.ensures))

pub put_cell-requires : goal.put_cell-requires
put_cell-requires c = c.if-count-ge-MOST_CELLS.false

pub overflow_add-more : goal.overflow_add-more
overflow_add-more c = omega arith

pub returns : goal.returns
returns c = rw c.put_cell.ensures (cell_taken c.args.table.now c.args.counts c.requires.1 c.requires.0 c.line_number-line.result c.line_number-line.ensures _ _ _ _ _ _ c.if-count-ge-MOST_CELLS.false (rw c.in-Some.is at c.read_cell.ensures.1).1 (rw c.in-Some.is at c.read_cell.ensures.0) (sym c.if-not-cell_may.false ∙ c.cell_may.ensures))
