-- `read_cell` meets its contract: the fields that were read, put into the definition. Assumes nothing.
use mathlib.Core.Path.{sym}
use Rattle.text.specs.Reading.{then}
use Rattle.sheet.specs.Rows.{cell_fields}
use Rattle.sheet.proofs.Parsing.{below_limit}
use Rattle.sheet.proofs.fields.read_cell.Goals as goal

pub returns-in_err-s : goal.returns-in_err-s
unfolding cell_fields then
returns-in_err-s c = rw c.from_residual.ensures (rw (sym (rw c.in_err-s.was at c.end_field.ensures)), tt)

pub returns-in_err-region : goal.returns-in_err-region
unfolding cell_fields then
returns-in_err-region c = rw c.from_residual-in_err-region.ensures (rw (sym (rw c.in_ok-s.was at c.end_field.ensures), sym (rw c.in_err-region.was at c.decimal_field.ensures)), tt)

pub returns-in_err-index : goal.returns-in_err-index
unfolding cell_fields then
returns-in_err-index c = rw c.from_residual-in_err-index.ensures (rw (sym (rw c.in_ok-s.was at c.end_field.ensures), sym (rw c.in_ok-region.was at c.decimal_field.ensures), sym (rw c.in_err-index.was at c.decimal_field-2.ensures)), tt)

pub returns-in_err-real : goal.returns-in_err-real
unfolding cell_fields then
returns-in_err-real c = rw c.from_residual-in_err-real.ensures (rw (sym (rw c.in_ok-s.was at c.end_field.ensures), sym (rw c.in_ok-region.was at c.decimal_field.ensures), sym (rw c.in_ok-index.was at c.decimal_field-2.ensures), sym (rw c.in_err-real.was at c.hex_field.ensures)), tt)

pub returns : goal.returns
unfolding cell_fields then
returns c = (rw (sym (rw c.in_ok-s.was at c.end_field.ensures), sym (rw c.in_ok-region.was at c.decimal_field.ensures), sym (rw c.in_ok-index.was at c.decimal_field-2.ensures), sym (rw c.in_ok-real.was at c.hex_field.ensures)), (below_limit _ _ _ (rw c.in_ok-region.was at c.decimal_field.ensures), below_limit _ _ _ (rw c.in_ok-index.was at c.decimal_field-2.ensures)))
