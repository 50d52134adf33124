-- `write_answer` meets its contract. Each need has a name here, so that a wrong program is refused where a fact fails. Assumes nothing.
use Rattle.calls.proofs.Framing.{writes_node, writes_traced_node, writes_refusal}
use borrow.Author.Rules.{rules}
use Rattle.calls.proofs.frame.write_answer.Goals as goal

pub refusal_of-requires : goal.refusal_of-requires
refusal_of-requires c = search rules

pub returns-in_default : goal.returns-in_default
returns-in_default c = writes_refusal _ _ _ c.in_default.is c.refusal_of.ensures

pub write_origins-requires : goal.write_origins-requires
write_origins-requires c = search rules

pub shape_of-store-then-traced : goal.shape_of-store-then-traced
shape_of-store-then-traced c = search rules

pub shape_of-table-then-traced : goal.shape_of-table-then-traced
shape_of-table-then-traced c = search rules

pub shape_of-out-then-traced : goal.shape_of-out-then-traced
shape_of-out-then-traced c = search rules

pub returns-then-traced : goal.returns-then-traced
returns-then-traced c = writes_traced_node _ _ _ c.in-Ok.is c.if-traced.true c.write_origins.ensures

pub write_listing-requires : goal.write_listing-requires
write_listing-requires c = search rules

pub shape_of-store : goal.shape_of-store
shape_of-store c = search rules

pub shape_of-table : goal.shape_of-table
shape_of-table c = search rules

pub shape_of-out : goal.shape_of-out
shape_of-out c = search rules

pub returns : goal.returns
returns c = writes_node _ _ _ c.in-Ok.is c.if-traced.false c.write_listing.ensures.writes
