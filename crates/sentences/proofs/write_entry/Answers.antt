-- `write_entry` meets its contract. Assumes nothing.
use Rattle.sentences.proofs.Saying.{written}
use Rattle.sentences.proofs.write_entry.Goals as goal

pub returns : goal.returns
returns c = record { put = (written c.line_start-from.result c.args.entry c.line_start-from.ensures.1 (c.write_line.ensures.put, c.write_line.ensures.within)).0; within = (written c.line_start-from.result c.args.entry c.line_start-from.ensures.1 (c.write_line.ensures.put, c.write_line.ensures.within)).1 }
