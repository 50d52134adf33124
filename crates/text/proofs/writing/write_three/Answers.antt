-- `write_three` meets its contract. Assumes nothing.
use Rattle.std.proofs.Common.{arith, length-set}
use Rattle.text.proofs.Putting.{three_put}
use Rattle.text.proofs.writing.write_three.Goals as goal

pub digit_byte-requires : goal.digit_byte-requires
digit_byte-requires c = omega (arith, c.requires)

pub bounds-out-at : goal.bounds-out-at
bounds-out-at c = omega (arith, c.requires)

pub digit_byte-requires-2 : goal.digit_byte-requires-2
digit_byte-requires-2 c = omega arith

pub overflow_add-out : goal.overflow_add-out
overflow_add-out c = omega (arith, c.requires)

pub bounds-out-at-2 : goal.bounds-out-at-2
bounds-out-at-2 c = omega (arith, c.requires, length-set c.args.out.now c.args.at c.digit_byte.result)

pub digit_byte-requires-3 : goal.digit_byte-requires-3
digit_byte-requires-3 c = omega arith

pub overflow_add-out-2 : goal.overflow_add-out-2
overflow_add-out-2 c = omega (arith, c.requires)

pub bounds-out-at-3 : goal.bounds-out-at-3
bounds-out-at-3 c = simp length-set (omega (arith, c.requires))

pub overflow_add-result : goal.overflow_add-result
overflow_add-result c = omega (arith, c.requires)

pub shape_of-out : goal.shape_of-out
shape_of-out c = simp length-set

pub returns : goal.returns
returns c = three_put _ _ _ _ _ _ c.requires.0 c.requires.1 c.digit_byte.ensures c.digit_byte-2.ensures c.digit_byte-3.ensures
