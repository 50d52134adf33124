-- `read_fields` meets its contract: the tests on the first byte pick the case of the definition. Assumes nothing.
use mathlib.Core.Path.{sym, ◌∙◌}
use borrow.Author.Tests.{eq-eqb, ne_eqb}
use Rattle.node_lines.specs.NodeLines.{fields_of}
use Rattle.node_lines.proofs.read_fields.Goals as goal

pub returns-then-first-eq110 : goal.returns-then-first-eq110
unfolding fields_of
returns-then-first-eq110 c = record { seen = λ earlier q. (c.read_number.ensures _).seen earlier q ∙ sym (rw (eq-eqb _ _ c.if-first-eq110.true)); within = (c.read_number.ensures _).within }

pub returns-then-first-eq118 : goal.returns-then-first-eq118
unfolding fields_of
returns-then-first-eq118 c = record { seen = λ earlier q. (c.read_variable.ensures _).seen earlier q ∙ sym (rw (ne_eqb _ _ c.if-first-eq110.false, eq-eqb _ _ c.if-first-eq118.true)); within = (c.read_variable.ensures _).within }

pub returns-then-first-eq109 : goal.returns-then-first-eq109
unfolding fields_of
returns-then-first-eq109 c = record { seen = λ earlier q. (c.read_cell.ensures _).seen earlier q ∙ sym (rw (ne_eqb _ _ c.if-first-eq110.false, ne_eqb _ _ c.if-first-eq118.false, eq-eqb _ _ c.if-first-eq109.true)); within = (c.read_cell.ensures _).within }

pub returns-then-first-eq102 : goal.returns-then-first-eq102
unfolding fields_of
returns-then-first-eq102 c = record { seen = λ earlier q. c.read_function.ensures.seen earlier q ∙ sym (rw (ne_eqb _ _ c.if-first-eq110.false, ne_eqb _ _ c.if-first-eq118.false, ne_eqb _ _ c.if-first-eq109.false, eq-eqb _ _ c.if-first-eq102.true)); within = c.read_function.ensures.within }

pub returns-then-first-eq117 : goal.returns-then-first-eq117
unfolding fields_of
returns-then-first-eq117 c = record { seen = λ earlier q. c.read_prefix.ensures.seen earlier q ∙ sym (rw (ne_eqb _ _ c.if-first-eq110.false, ne_eqb _ _ c.if-first-eq118.false, ne_eqb _ _ c.if-first-eq109.false, ne_eqb _ _ c.if-first-eq102.false, eq-eqb _ _ c.if-first-eq117.true)); within = c.read_prefix.ensures.within }

pub returns-then-first-eq98 : goal.returns-then-first-eq98
unfolding fields_of
returns-then-first-eq98 c = record { seen = λ earlier q. c.read_infix.ensures.seen earlier q ∙ sym (rw (ne_eqb _ _ c.if-first-eq110.false, ne_eqb _ _ c.if-first-eq118.false, ne_eqb _ _ c.if-first-eq109.false, ne_eqb _ _ c.if-first-eq102.false, ne_eqb _ _ c.if-first-eq117.false, eq-eqb _ _ c.if-first-eq98.true)); within = c.read_infix.ensures.within }

pub returns : goal.returns
unfolding fields_of
returns c = record { seen = λ earlier q. sym (rw (ne_eqb _ _ c.if-first-eq110.false, ne_eqb _ _ c.if-first-eq118.false, ne_eqb _ _ c.if-first-eq109.false, ne_eqb _ _ c.if-first-eq102.false, ne_eqb _ _ c.if-first-eq117.false, ne_eqb _ _ c.if-first-eq98.false)); within = tt }
