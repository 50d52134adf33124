-- `read_variable` meets its contract. Assumes nothing.
use mathlib.Core.Path.{sym}
use native.Mathlib.Omega.{arith}
use Rattle.expression.specs.Nodes.{grown}
use Rattle.text.specs.Reading.{then}
use Rattle.node_lines.specs.NodeLines.{variable_fields}
use Rattle.text.proofs.Fields.{told, told_bad}
use Rattle.origins.proofs.Ending.{line_ends, end_below}
use Rattle.node_lines.proofs.read_variable.Goals as goal

pub returns-in_err-number : goal.returns-in_err-number
unfolding variable_fields then grown
returns-in_err-number c = λ lines. rw c.from_residual.ensures record { seen = λ earlier q. sym (rw (told_bad (line_ends c.end_line.ensures c.read_decimal.ensures) c.in_err-number.was)); within = tt }

pub overflow_cast-result : goal.overflow_cast-result
unfolding variable_fields then grown
overflow_cast-result c = let l = end_below 65536 c.args.s.now (line_ends c.end_line.ensures c.read_decimal.ensures) c.in_ok-number.was in omega (arith, l)

pub returns : goal.returns
unfolding variable_fields then grown
returns c = λ lines. record { seen = λ earlier q. sym (rw (told (line_ends c.end_line.ensures c.read_decimal.ensures) c.in_ok-number.was)); within = tt }
