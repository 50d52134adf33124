-- `read_infix` meets its contract. Assumes nothing.
use mathlib.Core.Path.{sym}
use Rattle.expression.specs.Nodes.{grown}
use Rattle.text.specs.Reading.{then}
use Rattle.node_lines.specs.NodeLines.{infix_fields, child_by}
use Rattle.text.proofs.Fields.{told, told_bad, ends, told_below}
use Rattle.origins.proofs.Ending.{line_ends, end_below}
use Rattle.node_lines.proofs.read_infix.Goals as goal

pub returns-in_err-o : goal.returns-in_err-o
unfolding infix_fields child_by then grown
returns-in_err-o c = rw c.from_residual.ensures record { seen = λ earlier q. sym (rw (told_bad (ends 9 c.end_field.ensures c.first_infix.ensures) c.in_err-o.was)); within = tt }

pub returns-in_err-left : goal.returns-in_err-left
unfolding infix_fields child_by then grown
returns-in_err-left c = rw c.from_residual-in_err-left.ensures record { seen = λ earlier q. sym (rw (told (ends 9 c.end_field.ensures c.first_infix.ensures) c.in_ok-o.was, q, told_bad c.decimal_field.ensures c.in_err-left.was)); within = tt }

pub returns-in_err-right : goal.returns-in_err-right
unfolding infix_fields child_by then grown
returns-in_err-right c = rw c.from_residual-in_err-right.ensures record { seen = λ earlier q. sym (rw (told (ends 9 c.end_field.ensures c.first_infix.ensures) c.in_ok-o.was, q, told c.decimal_field.ensures c.in_ok-left.was, told_bad (line_ends c.end_line.ensures c.read_decimal.ensures) c.in_err-right.was)); within = tt }

pub returns : goal.returns
unfolding infix_fields child_by then grown
returns c = record { seen = λ earlier q. sym (rw (told (ends 9 c.end_field.ensures c.first_infix.ensures) c.in_ok-o.was, q, told c.decimal_field.ensures c.in_ok-left.was, told (line_ends c.end_line.ensures c.read_decimal.ensures) c.in_ok-right.was, c.from_code.ensures)); within = (told_below _ _ _ c.decimal_field.ensures c.in_ok-left.was, end_below _ _ (line_ends c.end_line.ensures c.read_decimal.ensures) c.in_ok-right.was) }
