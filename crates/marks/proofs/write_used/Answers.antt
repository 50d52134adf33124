-- `write_used` meets its contract. Assumes nothing.
use Rattle.marks.proofs.Numbering.{none_used, some_used}
use Rattle.marks.proofs.write_used.Goals as goal

pub returns-then-is_clear : goal.returns-then-is_clear
returns-then-is_clear c = none_used _ c.is_clear.ensures c.if-is_clear.true _

pub returns : goal.returns
returns c = some_used _ c.is_clear.ensures c.if-is_clear.false c.write_line.ensures
