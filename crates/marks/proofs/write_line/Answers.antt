-- `write_line` meets its contract. Assumes nothing.
use Rattle.marks.proofs.Numbering.{line_put}
use Rattle.marks.proofs.write_line.Goals as goal

pub returns : goal.returns
returns c = line_put c.write_bytes-p.ensures c.write_numbers-q.ensures c.write_byte.ensures c.requires.1
