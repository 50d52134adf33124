-- `write_decimal` meets its contract: by how many digits there are. Assumes nothing.
use Rattle.std.proofs.Common.{arith}
use Rattle.text.proofs.Putting.{one_length, two_length, three_length, one_put}
use Rattle.text.proofs.writing.write_decimal.Goals as goal

pub digit_byte-requires : goal.digit_byte-requires
digit_byte-requires c = omega arith

pub bounds-out-at : goal.bounds-out-at
bounds-out-at c = omega (arith, one_length c.args.n c.if-n-lt10.true)

pub overflow_add-result : goal.overflow_add-result
overflow_add-result c = omega (arith, one_length c.args.n c.if-n-lt10.true)

pub returns-then-n-lt10 : goal.returns-then-n-lt10
returns-then-n-lt10 c = one_put _ _ _ _ c.if-n-lt10.true c.digit_byte.ensures

pub write_two-requires : goal.write_two-requires
write_two-requires c = (c.if-n-lt10.false, c.if-n-lt100.true, omega (arith, two_length c.args.n c.if-n-lt10.false c.if-n-lt100.true))

pub returns-then-n-lt100 : goal.returns-then-n-lt100
returns-then-n-lt100 c = c.write_two.ensures

pub write_three-requires : goal.write_three-requires
write_three-requires c = (c.if-n-lt100.false, c.if-n-lt1000.true, omega (arith, three_length c.args.n c.if-n-lt100.false c.if-n-lt1000.true))

pub returns-then-n-lt1000 : goal.returns-then-n-lt1000
returns-then-n-lt1000 c = c.write_three.ensures

pub returns : goal.returns
returns c = c.write_long.ensures
