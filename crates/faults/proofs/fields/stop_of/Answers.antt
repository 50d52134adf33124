-- `stop_of` meets its contract. Assumes nothing.
use mathlib.Core.Path.{sym}
use borrow.Author.Tests.{eq-eqb, ne_eqb}
use Rattle.faults.specs.Faulting.{stop_of}
use Rattle.faults.proofs.fields.stop_of.Goals as goal

pub returns-then-left-eq0 : goal.returns-then-left-eq0
unfolding stop_of
returns-then-left-eq0 c = sym (rw (eq-eqb _ _ c.if-left-eq0.true))

pub returns-else-left-eq0 : goal.returns-else-left-eq0
unfolding stop_of
returns-else-left-eq0 c = sym (rw (ne_eqb _ _ c.if-left-eq0.false))
