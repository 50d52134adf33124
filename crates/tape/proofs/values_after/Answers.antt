-- `values_after` meets its contract: by the first test that fails. Assumes nothing.
use native.Mathlib.Omega.{arith}
use Rattle.tape.proofs.Checking.{after_unknown, after_empty, after_full, after_on}
use mathlib.Core.Bool.{not}
use mathlib.Core.Path.{ap, ◌∙◌}
use Rattle.tape.proofs.values_after.Goals as goal

pub returns-then-not-is_known : goal.returns-then-not-is_known
returns-then-not-is_known c = after_unknown _ _ c.is_known.ensures (ap not c.if-not-is_known.true)

pub returns-in_err-left : goal.returns-in_err-left
returns-in_err-left c = c.from_residual.ensures ∙ after_empty _ _ c.is_known.ensures (ap not c.if-not-is_known.false) c.taken.ensures.0 (omega (arith, c.in_err-left.ensures))

pub returns-then-left-ge-MOST_VALUES : goal.returns-then-left-ge-MOST_VALUES
returns-then-left-ge-MOST_VALUES c = after_full _ _ c.is_known.ensures (ap not c.if-not-is_known.false) c.taken.ensures.0 c.in_ok-left.ensures.0 (omega (arith, c.in_ok-left.ensures.1, c.if-left-ge-MOST_VALUES.true))

pub overflow_add-result : goal.overflow_add-result
overflow_add-result c = omega (arith, c.if-left-ge-MOST_VALUES.false)

pub returns : goal.returns
returns c = rw c.in_ok-left.ensures.1 (after_on _ _ c.is_known.ensures (ap not c.if-not-is_known.false) c.taken.ensures.0 c.in_ok-left.ensures.0 (omega (arith, c.in_ok-left.ensures.1, c.if-left-ge-MOST_VALUES.false)))
