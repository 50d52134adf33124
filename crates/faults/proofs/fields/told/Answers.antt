-- `told` meets its contract: the tests pick the case of the definition. Assumes nothing.
use Rattle.std.proofs.Common.{sym, ◌∙◌, eq-eqb, ne_eqb}
use Rattle.faults.specs.Faulting.{told}
use Rattle.faults.proofs.Telling.{told_end}
use Rattle.faults.proofs.fields.told.Goals as goal

pub returns-then-left-eq0 : goal.returns-then-left-eq0
returns-then-left-eq0 c = sym (told_end _ c.args.base c.args.left c.in_default.ensures.cases ∙ rw (eq-eqb _ 0 c.if-left-eq0.true))

pub returns-in_default : goal.returns-in_default
returns-in_default c = sym (told_end _ c.args.base c.args.left c.in_default.ensures.cases ∙ rw (ne_eqb _ 0 c.if-left-eq0.false))

pub returns-then-b-eq-CR : goal.returns-then-b-eq-CR
unfolding told
returns-then-b-eq-CR c = sym (rw (c.in-Some.ensures.cases.0, eq-eqb _ 13 c.if-b-eq-CR.true))

pub returns-then-is_lower_hex : goal.returns-then-is_lower_hex
unfolding told
returns-then-is_lower_hex c = sym (rw (c.in-Some.ensures.cases.0, ne_eqb _ 13 c.if-b-eq-CR.false, sym c.is_lower_hex.ensures ∙ c.if-is_lower_hex.true))

pub returns-then-ends_early : goal.returns-then-ends_early
unfolding told
returns-then-ends_early c = sym (rw (c.in-Some.ensures.cases.0, ne_eqb _ 13 c.if-b-eq-CR.false, sym c.is_lower_hex.ensures ∙ c.if-is_lower_hex.false, sym c.ends_early.ensures ∙ c.if-ends_early.true))

pub returns : goal.returns
unfolding told
returns c = sym (rw (c.in-Some.ensures.cases.0, ne_eqb _ 13 c.if-b-eq-CR.false, sym c.is_lower_hex.ensures ∙ c.if-is_lower_hex.false, sym c.ends_early.ensures ∙ c.if-ends_early.false))
