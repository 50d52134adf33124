-- `take_line` meets its contract: the first byte decides. Assumes nothing.
use Rattle.listing.proofs.Taking.{is_swap_line, is_node_line}
use Rattle.listing.proofs.take_line.Goals as goal

pub take_swap-requires : goal.take_swap-requires
take_swap-requires c = c.requires

pub returns-then-first-eq115 : goal.returns-then-first-eq115
returns-then-first-eq115 c = λ li. is_swap_line _ _ _ _ c.if-first-eq115.true (c.take_swap.ensures _ li)

pub take_node-requires : goal.take_node-requires
take_node-requires c = c.requires

pub returns : goal.returns
returns c = λ li. is_node_line _ _ _ _ c.if-first-eq115.false (c.take_node.ensures li)
