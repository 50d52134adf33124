-- `read_swap` meets its contract. Assumes nothing.
use Rattle.std.proofs.Common.{sym}
use Rattle.text.specs.Reading.{then}
use Rattle.text.proofs.Fields.{told, told_bad, told_below}
use Rattle.listing.specs.Listings.{swap_fields}
use Rattle.node_lines.specs.NodeLines.{child_by}
use Rattle.listing.proofs.read_swap.Goals as goal

pub returns-in_err-s : goal.returns-in_err-s
unfolding swap_fields then
returns-in_err-s c = rw c.from_residual.ensures record { seen = λ nodes q. sym (rw (told_bad c.end_field.ensures c.in_err-s.was)); within = tt }

pub returns-in_err-variable : goal.returns-in_err-variable
unfolding swap_fields then
returns-in_err-variable c = rw c.from_residual-in_err-variable.ensures record { seen = λ nodes q. sym (rw (told c.end_field.ensures c.in_ok-s.was, told_bad c.decimal_field.ensures c.in_err-variable.was)); within = tt }

pub returns-in_err-line : goal.returns-in_err-line
unfolding swap_fields child_by then
returns-in_err-line c = rw c.from_residual-in_err-line.ensures record { seen = λ nodes q. sym (rw (told c.end_field.ensures c.in_ok-s.was, told c.decimal_field.ensures c.in_ok-variable.was, q, told_bad c.decimal_field-2.ensures c.in_err-line.was)); within = tt }

pub returns : goal.returns
unfolding swap_fields child_by then
returns c = record { seen = λ nodes q. sym (rw (told c.end_field.ensures c.in_ok-s.was, told c.decimal_field.ensures c.in_ok-variable.was, q, told c.decimal_field-2.ensures c.in_ok-line.was)); within = told_below _ _ _ c.decimal_field-2.ensures c.in_ok-line.was }
