-- `read_variable` meets its contract: the fields that were read, put into the definition. Assumes nothing.
use mathlib.Core.Path.{sym}
use Rattle.text.specs.Reading.{then}
use Rattle.sheet.specs.Rows.{variable_fields}
use Rattle.sheet.proofs.fields.read_variable.Goals as goal

pub returns-in_err-s : goal.returns-in_err-s
unfolding variable_fields then
returns-in_err-s c = rw c.from_residual.ensures (rw (sym (rw c.in_err-s.was at c.end_field.ensures)))

pub returns-in_err-number : goal.returns-in_err-number
unfolding variable_fields then
returns-in_err-number c = rw c.from_residual-in_err-number.ensures (rw (sym (rw c.in_ok-s.was at c.end_field.ensures), sym (rw c.in_err-number.was at c.decimal_field.ensures)))

pub returns-in_err-value : goal.returns-in_err-value
unfolding variable_fields then
returns-in_err-value c = rw c.from_residual-in_err-value.ensures (rw (sym (rw c.in_ok-s.was at c.end_field.ensures), sym (rw c.in_ok-number.was at c.decimal_field.ensures), sym (rw c.in_err-value.was at c.pair_field.ensures)))

pub returns : goal.returns
unfolding variable_fields then
returns c = rw (sym (rw c.in_ok-s.was at c.end_field.ensures), sym (rw c.in_ok-number.was at c.decimal_field.ensures), sym (rw c.in_ok-value.was at c.pair_field.ensures))
