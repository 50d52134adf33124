-- `second_operand` meets its contract: the fields that were read, put into the definition. Assumes nothing.
use mathlib.Core.Path.{sym}
use borrow.Author.Tests.{eq-eqb, ne_eqb}
use Rattle.text.specs.Reading.{then}
use Rattle.sheet.specs.Rows.{second_operand}
use Rattle.sheet.proofs.fields.second_operand.Goals as goal

pub returns-in_err-re : goal.returns-in_err-re
unfolding second_operand then
returns-in_err-re c = rw c.from_residual.ensures (rw (sym (rw c.in_err-re.was at c.hex_field.ensures)))

pub returns-in_err-im : goal.returns-in_err-im
unfolding second_operand then
returns-in_err-im c = rw c.from_residual-in_err-im.ensures (rw (sym (rw c.in_ok-re.was at c.hex_field.ensures), sym (rw c.in_err-im.was at c.hex_field-2.ensures)))

pub returns-then-name-eq-POWER : goal.returns-then-name-eq-POWER
unfolding second_operand then
returns-then-name-eq-POWER c = rw (sym (rw c.in_ok-re.was at c.hex_field.ensures), sym (rw c.in_ok-im.was at c.hex_field-2.ensures), eq-eqb _ _ c.if-name-eq-POWER.true)

pub returns-then-re-ne0 : goal.returns-then-re-ne0
unfolding second_operand then
returns-then-re-ne0 c = rw (sym (rw c.in_ok-re.was at c.hex_field.ensures), sym (rw c.in_ok-im.was at c.hex_field-2.ensures), ne_eqb _ _ c.if-name-eq-POWER.false, ne_eqb _ _ c.if-re-ne0.true)

pub returns-then-im-ne0 : goal.returns-then-im-ne0
unfolding second_operand then
returns-then-im-ne0 c = rw (sym (rw c.in_ok-re.was at c.hex_field.ensures), sym (rw c.in_ok-im.was at c.hex_field-2.ensures), ne_eqb _ _ c.if-name-eq-POWER.false, eq-eqb _ _ c.if-re-ne0.false, ne_eqb _ _ c.if-im-ne0.true)

pub returns : goal.returns
unfolding second_operand then
returns c = rw (sym (rw c.in_ok-re.was at c.hex_field.ensures), sym (rw c.in_ok-im.was at c.hex_field-2.ensures), ne_eqb _ _ c.if-name-eq-POWER.false, eq-eqb _ _ c.if-re-ne0.false, eq-eqb _ _ c.if-im-ne0.false)
