-- `decimal_length` meets its contract, by the equations of `in_decimal`. The measure is the number. Assumes nothing.
use Rattle.std.proofs.Common.{sym, arith}
use Rattle.text.proofs.Putting.{one_length, two_length, three_length, more_length, few_digits}
use Rattle.text.proofs.writing.+decimal_length.Goals as goal

pub returns-then-n-lt10 : goal.returns-then-n-lt10
returns-then-n-lt10 t c = (sym (one_length _ c.if-n-lt10.true), omega arith)

pub returns-then-n-lt100 : goal.returns-then-n-lt100
returns-then-n-lt100 t c = (sym (two_length _ c.if-n-lt10.false c.if-n-lt100.true), omega arith)

pub returns-then-n-lt1000 : goal.returns-then-n-lt1000
returns-then-n-lt1000 t c = (sym (three_length _ c.if-n-lt100.false c.if-n-lt1000.true), omega arith)

pub decimal_length-requires : goal.decimal_length-requires
decimal_length-requires t c = (omega (arith, c.if-n-lt10.false), tt)

pub overflow_add-result : goal.overflow_add-result
overflow_add-result t c = omega arith

pub returns : goal.returns
returns t c = (omega (arith, more_length c.args.n c.if-n-lt10.false, c.decimal_length.ensures.0), omega (arith, few_digits 19 c.args.n (omega arith), more_length c.args.n c.if-n-lt10.false, c.decimal_length.ensures.0))
