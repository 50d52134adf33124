-- `has_at` meets its contract. What is left of the line has an `@` if the whole has one. Assumes nothing.
use Rattle.std.proofs.Common.{sym, ◌∙◌}
use Rattle.faults.proofs.Telling.{at_passed, at_feed, at_found, at_end}
use Rattle.faults.proofs.has_at.Goals as goal

pub returns-then-b-eq-LF : goal.returns-then-b-eq-LF
returns-then-b-eq-LF c = sym (at_feed _ _ c.loop-b-test.true c.if-b-eq-LF.true) ∙ c.loop-b.invariant

pub returns-then-b-eq64 : goal.returns-then-b-eq64
returns-then-b-eq64 c = sym (at_found _ _ c.loop-b-test.true c.if-b-eq64.true) ∙ c.loop-b.invariant

pub loop-b-preserved : goal.loop-b-preserved
loop-b-preserved c = sym (at_passed _ _ c.loop-b-test.true c.if-b-eq-LF.false c.if-b-eq64.false) ∙ c.loop-b.invariant

pub returns : goal.returns
returns c = sym (at_end _ _ c.loop-b-test.false) ∙ c.loop-b.invariant
