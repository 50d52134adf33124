-- `read_row` meets its contract: the fields that were read, put into the definition. Assumes nothing.
use mathlib.Core.Path.{sym, ap, ◌∙◌}
use Rattle.text.specs.Reading.{then, ended}
use Rattle.sheet.specs.Rows.{row_fields}
use Rattle.sheet.proofs.Parsing.{name_small}
use Rattle.sheet.proofs.fields.read_row.Goals as goal

pub returns-in_err-s : goal.returns-in_err-s
unfolding row_fields then
returns-in_err-s c = rw c.from_residual.ensures (rw (sym (rw c.in_err-s.was at c.end_field.ensures)), tt)

pub returns-in_err-name : goal.returns-in_err-name
unfolding row_fields then
returns-in_err-name c = rw c.from_residual-in_err-name.ensures (rw (sym (rw c.in_ok-s.was at c.end_field.ensures), sym (rw c.in_err-name.was at (c.end_field-2.ensures ∙ ap (ended _) c.first_operation.ensures))), tt)

pub returns-in_err-x : goal.returns-in_err-x
unfolding row_fields then
returns-in_err-x c = rw c.from_residual-in_err-x.ensures (rw (sym (rw c.in_ok-s.was at c.end_field.ensures), sym (rw c.in_ok-name.was at (c.end_field-2.ensures ∙ ap (ended _) c.first_operation.ensures)), sym (rw c.in_err-x.was at c.pair_field.ensures)), tt)

pub returns-in_err-y : goal.returns-in_err-y
unfolding row_fields then
returns-in_err-y c = rw c.from_residual-in_err-y.ensures (rw (sym (rw c.in_ok-s.was at c.end_field.ensures), sym (rw c.in_ok-name.was at (c.end_field-2.ensures ∙ ap (ended _) c.first_operation.ensures)), sym (rw c.in_ok-x.was at c.pair_field.ensures), sym (rw c.in_err-y.was at c.second_operand.ensures)), tt)

pub returns-in_err-value : goal.returns-in_err-value
unfolding row_fields then
returns-in_err-value c = rw c.from_residual-in_err-value.ensures (rw (sym (rw c.in_ok-s.was at c.end_field.ensures), sym (rw c.in_ok-name.was at (c.end_field-2.ensures ∙ ap (ended _) c.first_operation.ensures)), sym (rw c.in_ok-x.was at c.pair_field.ensures), sym (rw c.in_ok-y.was at c.second_operand.ensures), sym (rw c.in_err-value.was at c.pair_field-2.ensures)), tt)

pub returns : goal.returns
unfolding row_fields then
returns c = (rw (sym (rw c.in_ok-s.was at c.end_field.ensures), sym (rw c.in_ok-name.was at (c.end_field-2.ensures ∙ ap (ended _) c.first_operation.ensures)), sym (rw c.in_ok-x.was at c.pair_field.ensures), sym (rw c.in_ok-y.was at c.second_operand.ensures), sym (rw c.in_ok-value.was at c.pair_field-2.ensures)), name_small _ _ (sym (sym (rw c.in_ok-name.was at (c.end_field-2.ensures ∙ ap (ended _) c.first_operation.ensures)))))
