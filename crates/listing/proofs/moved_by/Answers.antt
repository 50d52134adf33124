-- `moved_by` meets its contract: the closure looks up in the table. Assumes nothing.
use borrow.Author.Rules.{rules}
use Rattle.listing.proofs.Taking.{looked_up}
use Rattle.listing.proofs.moved_by.Goals as goal

pub returns : goal.returns
returns c = looked_up _ _ (c.map_operands.ensures _ (λ k r p. search rules))
