-- `hex_digit` meets its contract. Assumes nothing.
use Rattle.text.proofs.Running.{digit_low, digit_high, digit_none}
use Rattle.text.proofs.reading.hex_digit.Goals as goal

pub returns-then-low-lt10 : goal.returns-then-low-lt10
returns-then-low-lt10 c = digit_low _ c.low_digit-low.ensures c.if-low-lt10.true

pub returns-then-high-lt6 : goal.returns-then-high-lt6
returns-then-high-lt6 c = digit_high _ c.high_digit-high.ensures c.if-high-lt6.true

pub returns-else-high-lt6 : goal.returns-else-high-lt6
returns-else-high-lt6 c = digit_none _ c.low_digit-low.ensures c.high_digit-high.ensures c.if-low-lt10.false c.if-high-lt6.false
