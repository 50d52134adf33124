-- `base_of` meets its contract. Assumes nothing.
use mathlib.Core.Path.{sym}
use borrow.Author.Tests.{eq-eqb, ne_eqb}
use Rattle.faults.specs.Faulting.{base_of}
use Rattle.faults.proofs.fields.base_of.Goals as goal

pub returns-then-kind-eq72 : goal.returns-then-kind-eq72
unfolding base_of
returns-then-kind-eq72 c = sym (rw (eq-eqb _ _ c.if-kind-eq72.true))

pub returns-then-kind-eq90 : goal.returns-then-kind-eq90
unfolding base_of
returns-then-kind-eq90 c = sym (rw (ne_eqb _ _ c.if-kind-eq72.false, eq-eqb _ _ c.if-kind-eq90.true))

pub returns-else-kind-eq90 : goal.returns-else-kind-eq90
unfolding base_of
returns-else-kind-eq90 c = sym (rw (ne_eqb _ _ c.if-kind-eq72.false, ne_eqb _ _ c.if-kind-eq90.false))
