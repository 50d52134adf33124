-- `write_too_long` meets its contract. Assumes nothing.
use mathlib.Core.Path.{refl}
use Rattle.sentences.specs.Table.{of}
use Rattle.sentences.proofs.Saying.{told, says_too_long}
use Rattle.sentences.proofs.write_too_long.Goals as goal

pub returns : goal.returns
returns c = record { put = (told (of 0 0 0) refl says_too_long (c.write_entry.ensures.put, c.write_entry.ensures.within)).0; within = (told (of 0 0 0) refl says_too_long (c.write_entry.ensures.put, c.write_entry.ensures.within)).1 }
