-- `take_node` meets its contract: each return is a law of proofs/Taking. Assumes nothing.
use native.Mathlib.Omega.{arith}
use Rattle.listing.proofs.Taking.{node_long, node_late, node_bad, node_next, node_refused}
use Rattle.listing.proofs.take_node.Goals as goal

pub overflow_add-here : goal.overflow_add-here
overflow_add-here c = omega (arith, c.requires.lines, c.requires.swaps)

pub returns-then-lines-ge-MOST_NODE_LINES : goal.returns-then-lines-ge-MOST_NODE_LINES
returns-then-lines-ge-MOST_NODE_LINES c = λ li. node_long c.requires li _ _ c.if-lines-ge-MOST_NODE_LINES.true

pub returns-then-swaps-gt0 : goal.returns-then-swaps-gt0
returns-then-swaps-gt0 c = λ li. node_late c.requires li _ _ c.if-lines-ge-MOST_NODE_LINES.false c.if-swaps-gt0.true

pub read_node-requires : goal.read_node-requires
read_node-requires c = c.requires.lines

pub returns-in_default : goal.returns-in_default
returns-in_default c = λ li. node_bad c.requires li _ _ c.if-lines-ge-MOST_NODE_LINES.false c.if-swaps-gt0.false c.read_node.ensures c.in_default.is

pub returns-in_default-added : goal.returns-in_default-added
returns-in_default-added c = λ li. node_refused c.requires li _ _ c.if-lines-ge-MOST_NODE_LINES.false c.if-swaps-gt0.false c.read_node.ensures c.in-Some.is (rw c.moved_by.ensures at c.add-added.ensures) c.in_default-added.is c.refusal_of.ensures

pub overflow_add-more : goal.overflow_add-more
overflow_add-more c = omega (arith, c.requires.lines)

pub returns : goal.returns
returns c = λ li. node_next c.requires li _ _ c.if-lines-ge-MOST_NODE_LINES.false c.if-swaps-gt0.false c.read_node.ensures c.in-Some.is (rw (c.moved_by.ensures, c.in-Ok.is) at c.add-added.ensures) c.mark.ensures c.put.ensures
