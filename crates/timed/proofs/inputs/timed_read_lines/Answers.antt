-- `timed_read_lines` meets its contract: what is answered from the place on is answered from the start. Assumes nothing.
use mathlib.Core.Path.{◌∙◌, refl}
use native.Mathlib.Omega.{arith}
use Rattle.timed.proofs.Lining.{ends_there, too_long_lem, malformed, goes_on}
use Rattle.timed.proofs.inputs.timed_read_lines.Goals as goal

pub loop-first-init : goal.loop-first-init
loop-first-init c = (omega arith, refl, λ r table' x. x)

pub shape_of-table-then-lines-ge1024 : goal.shape_of-table-then-lines-ge1024
shape_of-table-then-lines-ge1024 c = c.loop-first.invariant.1

pub returns-then-lines-ge1024 : goal.returns-then-lines-ge1024
returns-then-lines-ge1024 c = c.loop-first.invariant.2 _ _ (too_long_lem c.loop-first.rest.now c.loop-first.lines c.loop-first.invariant.0 c.loop-first.table _ (omega (arith, c.in-Some.ensures.cases.1)) c.if-lines-ge1024.true c.refused.ensures)

pub shape_of-table-in_default-read_node : goal.shape_of-table-in_default-read_node
shape_of-table-in_default-read_node c = c.loop-first.invariant.1

pub returns-in_default-read_node : goal.returns-in_default-read_node
returns-in_default-read_node c = c.loop-first.invariant.2 _ _ (malformed c.loop-first.rest.now c.loop-first.lines c.loop-first.invariant.0 c.loop-first.table c.in-Some.ensures.cases _ c.read_node.ensures c.if-lines-ge1024.false _ c.in_default-read_node.is c.refused-in_default-read_node.ensures)

pub put_fields-requires : goal.put_fields-requires
put_fields-requires c = omega arith

pub overflow_add-lines : goal.overflow_add-lines
overflow_add-lines c = omega arith

pub loop-first-smaller : goal.loop-first-smaller
loop-first-smaller c = omega arith

pub loop-first-preserved : goal.loop-first-preserved
loop-first-preserved c = (omega arith, c.put_fields.auto.table ∙ c.loop-first.invariant.1, λ r table' x. c.loop-first.invariant.2 r table' (goes_on c.loop-first.rest.now c.loop-first.lines c.loop-first.invariant.0 c.loop-first.table c.in-Some.ensures.cases _ c.read_node.ensures c.if-lines-ge1024.false _ _ c.in-Some-read_node.is _ c.fields_of.result c.put_fields.ensures c.fields_of.ensures.value r table' x))

pub shape_of-table : goal.shape_of-table
shape_of-table c = c.loop-first.invariant.1

pub returns : goal.returns
returns c = c.loop-first.invariant.2 _ _ (ends_there c.loop-first.rest.now c.loop-first.lines c.loop-first.invariant.0 c.loop-first.table c.in_default.ensures.cases)
