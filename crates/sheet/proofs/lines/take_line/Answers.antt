-- `take_line` meets its contract: the first byte decides. Assumes nothing.
use native.Mathlib.Omega.{arith}
use Rattle.sheet.proofs.Taking.{refuses, as_line, at_variable, at_cell, at_row, at_other}
use Rattle.sheet.proofs.lines.take_line.Goals as goal

pub take_variable-requires : goal.take_variable-requires
take_variable-requires c = c.requires

pub returns-then-first-eq118 : goal.returns-then-first-eq118
returns-then-first-eq118 c = as_line c.take_variable.ensures (at_variable _ _ _ c.if-first-eq118.true)

pub take_cell-requires : goal.take_cell-requires
take_cell-requires c = c.requires

pub returns-then-first-eq109 : goal.returns-then-first-eq109
returns-then-first-eq109 c = as_line c.take_cell.ensures (at_cell _ _ _ c.if-first-eq109.true)

pub take_row-requires : goal.take_row-requires
take_row-requires c = c.requires

pub returns-then-first-eq116 : goal.returns-then-first-eq116
returns-then-first-eq116 c = as_line c.take_row.ensures (at_row _ _ _ c.if-first-eq116.true)

pub line_number-requires : goal.line_number-requires
line_number-requires c = omega (arith, c.requires.1.variables, c.requires.1.cells, c.requires.1.functions)

pub returns : goal.returns
returns c = refuses (at_other c.args.table.now c.args.counts c.line_number.result c.line_number.ensures _ _ c.if-first-eq118.false c.if-first-eq109.false c.if-first-eq116.false)
