-- `is_number` meets its contract: the kind in the tag. Assumes nothing.
use Rattle.store.specs.Memory.{memory}
use Rattle.store.proofs.Settling.{tells_number}
use Rattle.store.proofs.numbers.is_number.Goals as goal

pub returns : goal.returns
returns c = tells_number (memory c.args.store.now) c.args.i _ c.tag_at.ensures
