-- `no_digit` meets its contract. The measure is what is left of the text. Assumes nothing.
use Rattle.std.proofs.Common.{sym, ◌∙◌}
use Rattle.faults.proofs.Telling.{digit_passed, digit_none, no_byte}
use Rattle.faults.proofs.fields.no_digit.Goals as goal

pub returns-then-base-digit : goal.returns-then-base-digit
returns-then-base-digit c = digit_none c.in-Some.ensures.cases c.args.base (rw c.digit.ensures at c.if-base-digit.true) ∙ c.loop-b.invariant

pub loop-b-preserved : goal.loop-b-preserved
loop-b-preserved c = sym (digit_passed c.in-Some.ensures.cases c.args.base (rw c.digit.ensures at c.if-base-digit.false)) ∙ c.loop-b.invariant

pub returns : goal.returns
returns c = no_byte _ c.args.base c.in_default.ensures.cases ∙ c.loop-b.invariant
