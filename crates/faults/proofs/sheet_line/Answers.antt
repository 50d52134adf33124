-- `sheet_line` meets its contract: the tests on the first byte and the name pick the form. Assumes nothing.
use mathlib.Core.Path.{sym, ◌∙◌}
use borrow.Author.Tests.{ne_eqb}
use Rattle.text.specs.Letters.{bytes}
use Rattle.text.proofs.Running.{starts_as}
use Rattle.faults.specs.Faulting.{form_with, sheet_form}
use Rattle.faults.proofs.sheet_line.Goals as goal

pub returns-then-first-eq118 : goal.returns-then-first-eq118
unfolding form_with sheet_form
returns-then-first-eq118 c = c.fields_fault.ensures ∙ sym (rw c.if-first-eq118.true)

pub returns-then-first-eq109 : goal.returns-then-first-eq109
unfolding form_with sheet_form
returns-then-first-eq109 c = c.fields_fault-then-first-eq109.ensures ∙ sym (rw c.if-first-eq109.true)

pub returns-then-starts_with : goal.returns-then-starts_with
unfolding form_with sheet_form
returns-then-starts_with c = c.fields_fault-then-starts_with.ensures ∙ sym (rw (ne_eqb _ _ c.if-first-eq118.false, ne_eqb _ _ c.if-first-eq109.false, sym (c.starts_with.ensures.value ∙ starts_as (bytes "t\tpow") c.args.line.now) ∙ c.if-starts_with.true))

pub returns : goal.returns
unfolding form_with sheet_form
returns c = c.fields_fault-2.ensures ∙ sym (rw (ne_eqb _ _ c.if-first-eq118.false, ne_eqb _ _ c.if-first-eq109.false, sym (c.starts_with.ensures.value ∙ starts_as (bytes "t\tpow") c.args.line.now) ∙ c.if-starts_with.false))
