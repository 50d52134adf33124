-- `read_function` meets its contract. Assumes nothing.
use mathlib.Core.Path.{sym}
use Rattle.expression.specs.Nodes.{grown}
use Rattle.text.specs.Reading.{then}
use Rattle.node_lines.specs.NodeLines.{function_fields, child_by}
use Rattle.text.proofs.Fields.{told, told_bad, ends}
use Rattle.origins.proofs.Ending.{line_ends, end_below}
use Rattle.node_lines.proofs.read_function.Goals as goal

pub returns-in_err-f : goal.returns-in_err-f
unfolding function_fields child_by then grown
returns-in_err-f c = rw c.from_residual.ensures record { seen = λ earlier q. sym (rw (told_bad (ends 9 c.end_field.ensures c.first_function.ensures) c.in_err-f.was)); within = tt }

pub returns-in_err-child : goal.returns-in_err-child
unfolding function_fields child_by then grown
returns-in_err-child c = rw c.from_residual-in_err-child.ensures record { seen = λ earlier q. sym (rw (told (ends 9 c.end_field.ensures c.first_function.ensures) c.in_ok-f.was, q, told_bad (line_ends c.end_line.ensures c.read_decimal.ensures) c.in_err-child.was)); within = tt }

pub returns : goal.returns
unfolding function_fields child_by then grown
returns c = record { seen = λ earlier q. sym (rw (told (ends 9 c.end_field.ensures c.first_function.ensures) c.in_ok-f.was, q, told (line_ends c.end_line.ensures c.read_decimal.ensures) c.in_ok-child.was, c.from_code.ensures)); within = end_below _ _ (line_ends c.end_line.ensures c.read_decimal.ensures) c.in_ok-child.was }
