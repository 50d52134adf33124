-- `write_numbers` meets its contract: the numbers of the marks that were passed stand. Assumes nothing.
use native.Mathlib.Omega.{arith}
use Rattle.text.proofs.Putting.{put_length}
use Rattle.marks.proofs.Numbering.{begins, goes_on, ends}
use Rattle.marks.proofs.write_numbers.Goals as goal

pub loop-k-init : goal.loop-k-init
loop-k-init c = begins _ _ _ _

pub write_mark-next-requires : goal.write_mark-next-requires
write_mark-next-requires c = (omega (arith, c.requires.0, c.loop-k-test.true), omega (arith, c.requires.0, c.requires.1, c.loop-k-test.true, c.loop-k.invariant.few, put_length c.loop-k.invariant.put))

pub loop-k-preserved : goal.loop-k-preserved
loop-k-preserved c = goes_on c.loop-k.invariant c.loop-k-test.true c.write_mark-next.ensures

pub shape_of-out : goal.shape_of-out
shape_of-out c = put_length c.loop-k.invariant.put

pub returns : goal.returns
returns c = ends c.loop-k.invariant c.loop-k-test.false c.requires.0
