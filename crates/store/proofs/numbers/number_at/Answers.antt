-- `number_at` meets its contract: the two fields as doubles. Assumes nothing.
use Rattle.store.proofs.Settling.{number_read}
use Rattle.store.proofs.numbers.number_at.Goals as goal

pub returns : goal.returns
returns c = number_read _ _ c.first_at.ensures c.from_bits.ensures c.second_at.ensures c.from_bits-2.ensures
