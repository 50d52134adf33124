-- `write_sentence` meets its contract. Assumes nothing.
use Rattle.sentences.specs.Table.{entry}
use Rattle.sentences.proofs.Saying.{told, says_all}
use Rattle.sentences.proofs.write_sentence.Goals as goal

pub returns : goal.returns
returns c = record { put = (told (entry c.args.why c.args.detail) c.entry_of.ensures (says_all c.args.why c.args.detail) (c.write_entry.ensures.put, c.write_entry.ensures.within)).0; within = (told (entry c.args.why c.args.detail) c.entry_of.ensures (says_all c.args.why c.args.detail) (c.write_entry.ensures.put, c.write_entry.ensures.within)).1 }
