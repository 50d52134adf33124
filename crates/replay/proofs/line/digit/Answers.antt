-- `replay::line::digit` meets its contract. Assumes nothing.
use Rattle.replay.proofs.Judging.{digit_low, digit_high}
use Rattle.replay.proofs.line.digit.Goals as goal

pub returns-then-c-le57 : goal.returns-then-c-le57
returns-then-c-le57 c = digit_low c.args.c c.if-c-le57.true

pub returns-else-c-le57 : goal.returns-else-c-le57
returns-else-c-le57 c = digit_high c.args.c c.if-c-le57.false
