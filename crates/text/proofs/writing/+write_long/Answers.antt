-- `write_long` meets its contract: each return is a law of proofs/Putting. The measure is the number. Assumes nothing.
use Rattle.std.proofs.Common.{arith, length-set}
use Rattle.text.proofs.Putting.{one_length, more_length, one_put, more_put}
use Rattle.text.proofs.writing.+write_long.Goals as goal

pub digit_byte-requires : goal.digit_byte-requires
digit_byte-requires t c = omega arith

pub bounds-out-at : goal.bounds-out-at
bounds-out-at t c = omega (arith, one_length c.args.n c.if-n-lt10.true)

pub overflow_add-result : goal.overflow_add-result
overflow_add-result t c = omega (arith, one_length c.args.n c.if-n-lt10.true)

pub returns-then-n-lt10 : goal.returns-then-n-lt10
returns-then-n-lt10 t c = one_put _ _ _ _ c.if-n-lt10.true c.digit_byte.ensures

pub write_long-p-requires : goal.write_long-p-requires
write_long-p-requires t c = (omega (arith, c.if-n-lt10.false), omega (arith, more_length c.args.n c.if-n-lt10.false))

pub digit_byte-requires-2 : goal.digit_byte-requires-2
digit_byte-requires-2 t c = omega arith

pub bounds-out-p : goal.bounds-out-p
bounds-out-p t c = omega (arith, c.write_long-p.auto.out, c.write_long-p.ensures.place, more_length c.args.n c.if-n-lt10.false)

pub overflow_add-result-2 : goal.overflow_add-result-2
overflow_add-result-2 t c = omega (arith, c.write_long-p.ensures.place, more_length c.args.n c.if-n-lt10.false)

pub shape_of-out : goal.shape_of-out
shape_of-out t c = simp length-set c.write_long-p.auto.out

pub returns : goal.returns
returns t c = more_put _ c.if-n-lt10.false c.write_long-p.ensures c.digit_byte-2.ensures
