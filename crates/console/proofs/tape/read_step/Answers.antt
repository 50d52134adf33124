-- `read_step` meets its contract. The invariant is `Stepping`. Assumes nothing.
use mathlib.Core.Path.{ap}
use native.Mathlib.Omega.{arith}
use Rattle.text.proofs.Fields.{told, told_bad}
use Rattle.console.specs.TapeText.{or_zeros}
use Rattle.console.proofs.TapeLines.{byte_only, step_begins, step_none, step_on, step_done}
use borrow.Author.Rules.{rules}
use Rattle.console.proofs.tape.read_step.Goals as goal

pub loop-k-init : goal.loop-k-init
loop-k-init c = step_begins _ _ (search rules)

pub returns-in_default : goal.returns-in_default
unfolding or_zeros
returns-in_default c = ap or_zeros (step_none c.loop-k.invariant c.stop_after.ensures c.loop-k-test.true (told_bad c.read_byte.ensures c.in_default.is))

pub overflow_cast-step : goal.overflow_cast-step
overflow_cast-step c = omega (arith, (byte_only _ _ (told c.read_byte.ensures c.in-Some.is)).0)

pub bounds-step-k : goal.bounds-step-k
bounds-step-k c = omega (arith, c.loop-k.invariant.long, c.loop-k-test.true)

pub loop-k-preserved : goal.loop-k-preserved
loop-k-preserved c = step_on c.loop-k.invariant c.stop_after.ensures c.loop-k-test.true (told c.read_byte.ensures c.in-Some.is)

pub returns : goal.returns
returns c = step_done c.loop-k.invariant c.loop-k-test.false
