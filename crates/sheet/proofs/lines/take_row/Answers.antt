-- `take_row` meets its contract: each return is a law of proofs/Taking. Assumes nothing.
use native.Mathlib.Omega.{arith}
use Rattle.sheet.proofs.Taking.{refuses, row_many, row_malformed, row_taken}
use Rattle.sheet.proofs.lines.take_row.Goals as goal

pub line_number-line-requires : goal.line_number-line-requires
line_number-line-requires c = omega (arith, c.requires.1.variables, c.requires.1.cells, c.requires.1.functions)

pub returns-then-count-ge-MOST_FUNCTIONS : goal.returns-then-count-ge-MOST_FUNCTIONS
returns-then-count-ge-MOST_FUNCTIONS c = refuses (row_many c.args.table.now c.args.counts c.line_number-line.result c.line_number-line.ensures _ _ c.if-count-ge-MOST_FUNCTIONS.true)

pub returns-in_default : goal.returns-in_default
returns-in_default c = refuses (row_malformed c.args.table.now c.args.counts c.line_number-line.result c.line_number-line.ensures _ _ c.if-count-ge-MOST_FUNCTIONS.false (rw c.in_default.is at c.read_row.ensures.0))

pub put_row-requires : goal.put_row-requires
put_row-requires c = (c.if-count-ge-MOST_FUNCTIONS.false, c.requires.0, (rw c.in-Some.is at c.read_row.ensures.1).0, (rw c.in-Some.is at c.read_row.ensures.1).1)

pub overflow_add-more : goal.overflow_add-more
overflow_add-more c = omega arith

pub returns : goal.returns
returns c = row_taken c.args.table.now c.args.counts c.requires.1 c.requires.0 c.line_number-line.result c.line_number-line.ensures _ _ _ _ _ _ _ c.if-count-ge-MOST_FUNCTIONS.false (rw c.in-Some.is at c.read_row.ensures.0) c.put_row.ensures
