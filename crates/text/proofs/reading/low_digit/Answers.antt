-- `low_digit` meets its contract. Assumes nothing.
use Rattle.text.proofs.Running.{low_wraps}
use Rattle.std.proofs.Common.{rules}
use Rattle.text.proofs.reading.low_digit.Goals as goal

pub returns : goal.returns
returns c = low_wraps _ _ (search rules) (search rules) c.wrapping_sub_u8.ensures.value
