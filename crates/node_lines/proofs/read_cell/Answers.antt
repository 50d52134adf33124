-- `read_cell` meets its contract. Assumes nothing.
use mathlib.Core.Path.{sym}
use native.Mathlib.Omega.{arith}
use Rattle.expression.specs.Nodes.{grown}
use Rattle.text.specs.Reading.{then}
use Rattle.node_lines.specs.NodeLines.{cell_fields}
use Rattle.text.proofs.Fields.{told, told_bad, told_below}
use Rattle.origins.proofs.Ending.{line_ends, end_below}
use Rattle.node_lines.proofs.read_cell.Goals as goal

pub returns-in_err-region : goal.returns-in_err-region
unfolding cell_fields then grown
returns-in_err-region c = λ lines. rw c.from_residual.ensures record { seen = λ earlier q. sym (rw (told_bad c.decimal_field.ensures c.in_err-region.was)); within = tt }

pub returns-in_err-index : goal.returns-in_err-index
unfolding cell_fields then grown
returns-in_err-index c = λ lines. rw c.from_residual-in_err-index.ensures record { seen = λ earlier q. sym (rw (told c.decimal_field.ensures c.in_ok-region.was, told_bad (line_ends c.end_line.ensures c.read_decimal.ensures) c.in_err-index.was)); within = tt }

pub overflow_cast-result : goal.overflow_cast-result
unfolding cell_fields then grown
overflow_cast-result c = let l = told_below _ _ _ c.decimal_field.ensures c.in_ok-region.was in omega (arith, l)

pub overflow_cast-result-2 : goal.overflow_cast-result-2
unfolding cell_fields then grown
overflow_cast-result-2 c = let l = end_below _ _ (line_ends c.end_line.ensures c.read_decimal.ensures) c.in_ok-index.was in omega (arith, l)

pub returns : goal.returns
unfolding cell_fields then grown
returns c = λ lines. record { seen = λ earlier q. sym (rw (told c.decimal_field.ensures c.in_ok-region.was, told (line_ends c.end_line.ensures c.read_decimal.ensures) c.in_ok-index.was)); within = tt }
