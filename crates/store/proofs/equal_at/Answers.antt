-- `equal_at` meets its contract: equal trees have the same class. Assumes nothing.
use Rattle.store.specs.Memory.{memory}
use Rattle.store.proofs.Keeping.{compares}
use Rattle.store.proofs.equal_at.Goals as goal

pub returns : goal.returns
returns c = compares (memory c.args.store.now) _ _ c.class_at.ensures c.class_at-2.ensures
