-- `write_mark` meets its contract. Assumes nothing.
use native.Mathlib.Omega.{arith}
use Rattle.text.proofs.Putting.{put_length}
use Rattle.marks.proofs.Numbering.{row_short, unmarked, marks_row}
use Rattle.marks.proofs.write_mark.Goals as goal

pub returns-then-mark-eq0 : goal.returns-then-mark-eq0
returns-then-mark-eq0 c = unmarked _ _ c.if-mark-eq0.true

pub write_decimal-requires : goal.write_decimal-requires
write_decimal-requires c = omega (arith, c.requires.1, c.write_byte-next.ensures.place, put_length c.write_byte-next.ensures, row_short _ c.requires.0)

pub returns : goal.returns
returns c = marks_row _ _ c.write_byte-next.ensures c.write_decimal.ensures c.requires.0 c.if-mark-eq0.false
