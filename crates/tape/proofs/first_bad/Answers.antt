-- `first_bad` meets its contract: the length first. Assumes nothing.
use native.Mathlib.Omega.{arith}
use Rattle.tape.proofs.Checking.{check_ragged, check_none, check_long, check_whole}
use Rattle.tape.proofs.first_bad.Goals as goal

pub returns-then-tape-ne0 : goal.returns-then-tape-ne0
returns-then-tape-ne0 c = check_ragged _ c.if-tape-ne0.true

pub returns-then-count-eq0 : goal.returns-then-count-eq0
returns-then-count-eq0 c = check_none _ c.if-tape-ne0.false c.if-count-eq0.true

pub returns-then-count-gt-MOST_STEPS : goal.returns-then-count-gt-MOST_STEPS
returns-then-count-gt-MOST_STEPS c = check_long _ c.if-tape-ne0.false c.if-count-gt-MOST_STEPS.true

pub check_steps-requires : goal.check_steps-requires
check_steps-requires c = (omega arith, c.if-count-gt-MOST_STEPS.false)

pub returns : goal.returns
returns c = check_whole _ c.if-tape-ne0.false c.if-count-eq0.false c.if-count-gt-MOST_STEPS.false c.check_steps.ensures
