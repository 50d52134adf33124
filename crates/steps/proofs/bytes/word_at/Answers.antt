-- `word_at` meets its contract: what the library reads of the bytes. Assumes nothing.
use Rattle.steps.proofs.Reading.{four_spelt, read_first}
use Rattle.steps.proofs.bytes.word_at.Goals as goal

pub returns : goal.returns
returns c = read_first 4 _ four_spelt _ _ c.requires c.from_le_bytes.ensures (rw c.unwrap.ensures at c.try_into.ensures.1).same
