-- `size_of` meets its contract: by the operands of the node; a size that is read is small. Assumes nothing.
use borrow.Author.Rules.{rules}
use Rattle.store.specs.Memory.{memory}
use Rattle.store.proofs.Packing.{size_small}
use Rattle.store.proofs.Measuring.{measured_none, measured_one, measured_two}
use Rattle.store.proofs.size_of.Goals as goal

pub overflow_add-result : goal.overflow_add-result
overflow_add-result c = let x = size_small (memory c.args.store.now).tag _ c.size_at.ensures in search rules

pub overflow_add-result-in-Two : goal.overflow_add-result-in-Two
overflow_add-result-in-Two c =
    let x = size_small (memory c.args.store.now).tag _ c.size_at-in-Two.ensures in
    let y = size_small (memory c.args.store.now).tag _ c.size_at-in-Two-2.ensures in
    search rules

pub overflow_add-result-in-Two-2 : goal.overflow_add-result-in-Two-2
overflow_add-result-in-Two-2 c =
    let x = size_small (memory c.args.store.now).tag _ c.size_at-in-Two.ensures in
    let y = size_small (memory c.args.store.now).tag _ c.size_at-in-Two-2.ensures in
    search rules

pub returns-in-Nothing : goal.returns-in-Nothing
returns-in-Nothing c = measured_none _ _ _ c.operands_of.ensures c.in-Nothing.is

pub returns-in-One : goal.returns-in-One
returns-in-One c = rw c.size_at.ensures (measured_one _ _ _ c.operands_of.ensures c.in-One.is)

pub returns-in-Two : goal.returns-in-Two
returns-in-Two c = rw (c.size_at-in-Two.ensures, c.size_at-in-Two-2.ensures) (measured_two _ _ _ c.operands_of.ensures c.in-Two.is)
