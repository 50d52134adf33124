-- `write_tape` meets its contract. The invariant: the lines of the bytes that were passed are put. Assumes nothing.
use native.Mathlib.Omega.{arith}
use Rattle.text.proofs.Putting.{put_length}
use Rattle.console.proofs.Lines.{put_counts}
use Rattle.console.proofs.TapeLines.{begun, writes_on, written_place, written_all, lines_length}
use Rattle.console.proofs.tape.write_tape.Goals as goal

pub loop-i-init : goal.loop-i-init
loop-i-init c = begun _ _

pub write_digits-at-requires : goal.write_digits-at-requires
write_digits-at-requires c = omega (arith, c.requires, c.loop-i-test.true, written_place c.loop-i.invariant, put_length c.loop-i.invariant.put)

pub loop-i-preserved : goal.loop-i-preserved
loop-i-preserved c = writes_on c.loop-i-test.true c.stop_after.ensures c.loop-i.invariant c.write_digits-at.ensures

pub shape_of-out : goal.shape_of-out
shape_of-out c = put_length c.loop-i.invariant.put

pub returns : goal.returns
returns c = let p = written_all c.loop-i.invariant c.loop-i-test.false in record { put = p; within = put_counts p (omega (arith, c.requires, lines_length 0 c.args.tape.now)) }
