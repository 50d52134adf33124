-- `missing_in_steps` meets its contract: the steps that are left name what the tape names. Assumes nothing.
use native.Mathlib.Omega.{arith}
use Rattle.lacks.proofs.Stepping.{same_begins, same_stops, same_goes, same_ends}
use Rattle.lacks.proofs.tapes.missing_in_steps.Goals as goal

pub loop-i-init : goal.loop-i-init
loop-i-init c = λ h. same_begins _ _

pub overflow_mul-i : goal.overflow_mul-i
overflow_mul-i c = omega (arith, c.loop-i-test.true)

pub fields_at-requires : goal.fields_at-requires
fields_at-requires c = omega (arith, c.loop-i-test.true)

pub returns-in-Some : goal.returns-in-Some
returns-in-Some c = λ h. same_stops (c.loop-i.invariant h) c.loop-i-test.true c.fields_at.ensures c.step_of-step.ensures (c.missing_step.ensures h) c.in-Some.is

pub loop-i-preserved : goal.loop-i-preserved
loop-i-preserved c = λ h. same_goes (c.loop-i.invariant h) c.loop-i-test.true c.fields_at.ensures c.step_of-step.ensures (c.missing_step.ensures h) c.in_default.is

pub returns : goal.returns
returns c = λ h. same_ends (c.loop-i.invariant h) c.loop-i-test.false
