-- `write_calls` meets its contract. Assumes nothing.
use Rattle.sentences.specs.Table.{calls_entry}
use Rattle.sentences.proofs.Saying.{told, says_calls}
use Rattle.sentences.proofs.write_calls.Goals as goal

pub returns : goal.returns
returns c = record { put = (told (calls_entry c.args.calls) c.calls_entry.ensures (says_calls c.args.calls) (c.write_entry.ensures.put, c.write_entry.ensures.within)).0; within = (told (calls_entry c.args.calls) c.calls_entry.ensures (says_calls c.args.calls) (c.write_entry.ensures.put, c.write_entry.ensures.within)).1 }
