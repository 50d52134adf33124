-- `write_line` meets its contract. Assumes nothing.
use native.Mathlib.Omega.{arith}
use mathlib.Core.Path.{◌∙◌}
use Rattle.text.proofs.Putting.{put_length}
use Rattle.sentences.proofs.Filling.{begun, goes_on, ends, runs_out}
use Rattle.sentences.proofs.write_line.Goals as goal

pub loop-i-init : goal.loop-i-init
loop-i-init c = begun _ _ _ _ _

pub write_piece-at-requires : goal.write_piece-at-requires
write_piece-at-requires c = omega (arith, c.requires, c.loop-i-test.true, c.loop-i.invariant.room, put_length c.loop-i.invariant.put)

pub shape_of-out-then-table-i-eq-LF : goal.shape_of-out-then-table-i-eq-LF
shape_of-out-then-table-i-eq-LF c = put_length c.write_piece-at.ensures.0 ∙ put_length c.loop-i.invariant.put

pub returns-then-table-i-eq-LF : goal.returns-then-table-i-eq-LF
returns-then-table-i-eq-LF c = record { put = (ends c.loop-i.invariant c.loop-i-test.true c.write_piece-at.ensures c.if-table-i-eq-LF.true c.requires).0; within = (ends c.loop-i.invariant c.loop-i-test.true c.write_piece-at.ensures c.if-table-i-eq-LF.true c.requires).1 }

pub loop-i-preserved : goal.loop-i-preserved
loop-i-preserved c = goes_on c.loop-i.invariant c.loop-i-test.true c.write_piece-at.ensures c.if-table-i-eq-LF.false

pub shape_of-out : goal.shape_of-out
shape_of-out c = put_length c.loop-i.invariant.put

pub returns : goal.returns
returns c = record { put = (runs_out c.loop-i.invariant c.loop-i-test.false c.requires).0; within = (runs_out c.loop-i.invariant c.loop-i-test.false c.requires).1 }
