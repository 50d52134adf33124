-- `write_hex` meets its contract. The invariant is `Turning`; the measure is how many digits are to come. Assumes nothing.
use Rattle.std.proofs.Common.{◌+◌, length, ap, arith}
use lib.Seq.{length-sets}
use Rattle.text.proofs.Putting.{turn_begins, turns, turned, put_length}
use Rattle.text.proofs.writing.write_hex.Goals as goal

pub loop-k-init : goal.loop-k-init
loop-k-init c = turn_begins _ _ _

pub digit_byte-requires : goal.digit_byte-requires
digit_byte-requires c = omega arith

pub overflow_add-out : goal.overflow_add-out
overflow_add-out c = omega (arith, c.loop-k.invariant.few)

pub bounds-out-at : goal.bounds-out-at
bounds-out-at c = omega (arith, c.loop-k.invariant.few, length-sets c.args.out.now (c.args.at + c.loop-k.k) c.loop-k.invariant.behind, ap length c.loop-k.invariant.stored, c.requires)

pub loop-k-smaller : goal.loop-k-smaller
loop-k-smaller c = omega arith

pub loop-k-preserved : goal.loop-k-preserved
loop-k-preserved c = turns _ c.loop-k.invariant c.loop-k-test.true c.digit_byte.ensures

pub overflow_add-result : goal.overflow_add-result
overflow_add-result c = omega arith

pub shape_of-out : goal.shape_of-out
shape_of-out c = put_length (turned c.loop-k.invariant c.loop-k-test.false)

pub returns : goal.returns
returns c = turned c.loop-k.invariant c.loop-k-test.false
