-- `node_line` meets its contract: the tests on the first byte pick the form. Assumes nothing.
use mathlib.Core.Path.{sym, ◌∙◌}
use borrow.Author.Tests.{ne_eqb}
use Rattle.faults.specs.Faulting.{node_form}
use Rattle.faults.proofs.node_line.Goals as goal

pub returns-then-first-eq110 : goal.returns-then-first-eq110
unfolding node_form
returns-then-first-eq110 c = c.fields_fault.ensures ∙ sym (rw c.if-first-eq110.true)

pub returns-then-first-eq112 : goal.returns-then-first-eq112
unfolding node_form
returns-then-first-eq112 c = c.fields_fault-then-first-eq112.ensures ∙ sym (rw c.if-first-eq112.true)

pub returns-then-first-eq118 : goal.returns-then-first-eq118
unfolding node_form
returns-then-first-eq118 c = c.fields_fault-then-first-eq118.ensures ∙ sym (rw c.if-first-eq118.true)

pub returns-then-first-eq109 : goal.returns-then-first-eq109
unfolding node_form
returns-then-first-eq109 c = c.fields_fault-then-first-eq109.ensures ∙ sym (rw c.if-first-eq109.true)

pub returns-then-first-eq102 : goal.returns-then-first-eq102
unfolding node_form
returns-then-first-eq102 c = c.fields_fault-then-first-eq102.ensures ∙ sym (rw c.if-first-eq102.true)

pub returns-then-first-eq117 : goal.returns-then-first-eq117
unfolding node_form
returns-then-first-eq117 c = c.fields_fault-then-first-eq117.ensures ∙ sym (rw c.if-first-eq117.true)

pub returns-then-first-eq98 : goal.returns-then-first-eq98
unfolding node_form
returns-then-first-eq98 c = c.fields_fault-then-first-eq98.ensures ∙ sym (rw c.if-first-eq98.true)

pub returns : goal.returns
unfolding node_form
returns c = c.fields_fault-2.ensures ∙ sym (rw (ne_eqb _ _ c.if-first-eq110.false, ne_eqb _ _ c.if-first-eq112.false, ne_eqb _ _ c.if-first-eq118.false, ne_eqb _ _ c.if-first-eq109.false, ne_eqb _ _ c.if-first-eq102.false, ne_eqb _ _ c.if-first-eq117.false, ne_eqb _ _ c.if-first-eq98.false))
