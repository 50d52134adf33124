-- `write_steps` meets its contract. The invariant: the lines of the steps that were passed stand, and those of the steps that are left are to come. Assumes nothing.
use native.Mathlib.Omega.{arith}
use Rattle.text.proofs.Putting.{put_length}
use Rattle.shown.proofs.Turns.{begins, room, goes_on, ends}
use Rattle.shown.proofs.write_steps.Goals as goal

pub loop-i-init : goal.loop-i-init
loop-i-init c = begins _ _

pub overflow_mul-i : goal.overflow_mul-i
overflow_mul-i c = omega (arith, c.loop-i-test.true)

pub fields_at-requires : goal.fields_at-requires
fields_at-requires c = omega (arith, c.loop-i-test.true)

pub write_line-at-requires : goal.write_line-at-requires
write_line-at-requires c = room c.loop-i.invariant c.loop-i-test.true c.requires

pub loop-i-preserved : goal.loop-i-preserved
loop-i-preserved c = goes_on c.loop-i.invariant c.loop-i-test.true c.fields_at.ensures c.step_of-step.ensures c.write_line-at.ensures

pub shape_of-out : goal.shape_of-out
shape_of-out c = put_length c.loop-i.invariant.put

pub returns : goal.returns
returns c = record { put = (ends c.loop-i.invariant c.loop-i-test.false c.requires).0; within = (ends c.loop-i.invariant c.loop-i-test.false c.requires).1 }
