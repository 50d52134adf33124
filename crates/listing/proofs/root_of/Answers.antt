-- `root_of` meets its contract. Assumes nothing.
use native.Mathlib.Omega.{arith}
use Rattle.listing.proofs.Whole.{root_none, root_some}
use Rattle.listing.proofs.root_of.Goals as goal

pub returns-then-lines-eq0 : goal.returns-then-lines-eq0
returns-then-lines-eq0 c = root_none _ _ c.if-lines-eq0.true

pub overflow_sub-lines : goal.overflow_sub-lines
overflow_sub-lines c = omega arith

pub returns : goal.returns
returns c = root_some _ _ _ c.if-lines-eq0.false c.read.ensures
