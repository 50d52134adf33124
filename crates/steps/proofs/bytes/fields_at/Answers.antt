-- `fields_at` meets its contract: each field from its place. Assumes nothing.
use Rattle.steps.proofs.Reading.{fields_at}
use Rattle.steps.proofs.bytes.fields_at.Goals as goal

pub returns : goal.returns
returns c = fields_at _ _ c.requires c.half_at.ensures c.word_at.ensures c.double_at.ensures c.double_at-2.ensures
