-- `pair_field` meets its contract: the fields that were read, put into the definition. Assumes nothing.
use mathlib.Core.Path.{sym}
use Rattle.text.specs.Reading.{then}
use Rattle.sheet.specs.Rows.{complex_field}
use Rattle.sheet.proofs.fields.pair_field.Goals as goal

pub returns-in_err-re : goal.returns-in_err-re
unfolding complex_field then
returns-in_err-re c = rw c.from_residual.ensures (rw (sym (rw c.in_err-re.was at c.hex_field.ensures)))

pub returns-in_err-im : goal.returns-in_err-im
unfolding complex_field then
returns-in_err-im c = rw c.from_residual-in_err-im.ensures (rw (sym (rw c.in_ok-re.was at c.hex_field.ensures), sym (rw c.in_err-im.was at c.hex_field-2.ensures)))

pub returns : goal.returns
unfolding complex_field then
returns c = rw (sym (rw c.in_ok-re.was at c.hex_field.ensures), sym (rw c.in_ok-im.was at c.hex_field-2.ensures))
