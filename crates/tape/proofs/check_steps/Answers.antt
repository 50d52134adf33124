-- `check_steps` meets its contract: the steps that are left. Assumes nothing.
use native.Mathlib.Omega.{arith}
use Rattle.tape.proofs.Checking.{rest_begins, rest_bad, rest_on, rest_sound, rest_left}
use Rattle.tape.proofs.check_steps.Goals as goal

pub loop-i-init : goal.loop-i-init
loop-i-init c = rest_begins _ _

pub overflow_mul-i : goal.overflow_mul-i
overflow_mul-i c = omega (arith, c.loop-i-test.true, c.requires.1)

pub fields_at-requires : goal.fields_at-requires
fields_at-requires c = omega (arith, c.loop-i-test.true, c.requires.0)

pub values_after-requires : goal.values_after-requires
values_after-requires c = c.loop-i.invariant.few

pub returns-in_default : goal.returns-in_default
returns-in_default c = rest_bad c.loop-i.invariant c.loop-i-test.true c.fields_at.ensures c.values_after.ensures c.in_default.is

pub loop-i-preserved : goal.loop-i-preserved
loop-i-preserved c = rest_on c.loop-i.invariant c.loop-i-test.true c.fields_at.ensures c.values_after.ensures c.in-Some.is

pub returns-then-values-eq1 : goal.returns-then-values-eq1
returns-then-values-eq1 c = rest_sound c.loop-i.invariant c.loop-i-test.false c.if-values-eq1.true

pub returns : goal.returns
returns c = rest_left c.loop-i.invariant c.loop-i-test.false c.if-values-eq1.false
