-- `is_above` meets its contract. Assumes nothing.
use native.Mathlib.Omega.{arith}
use Rattle.listing.proofs.Taking.{above_first, above_later}
use Rattle.listing.proofs.is_above.Goals as goal

pub returns-then-swaps-eq0 : goal.returns-then-swaps-eq0
returns-then-swaps-eq0 c = λ m t. above_first m c.args.table.now _ _ t c.if-swaps-eq0.true

pub overflow_sub-swaps : goal.overflow_sub-swaps
overflow_sub-swaps c = omega arith

pub overflow_mul-swaps : goal.overflow_mul-swaps
overflow_mul-swaps c = omega arith

pub overflow_add-swaps : goal.overflow_add-swaps
overflow_add-swaps c = omega arith

pub returns : goal.returns
returns c = λ m t. rw c.read.ensures (above_later m c.args.table.now _ _ t c.if-swaps-eq0.false)
