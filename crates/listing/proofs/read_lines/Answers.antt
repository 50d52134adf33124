-- `read_lines` meets its contract: the invariant is `Going`. The measure is how many lines are still allowed. Assumes nothing.
use mathlib.Core.Path.{◌∙◌}
use Rattle.expression.proofs.Passing.{passed_on}
use Rattle.store.specs.Held.{lent}
use Rattle.listing.proofs.Whole.{going_begins, is_ready, going_stops, going_on, going_ends, less, same_begins, same_on}
use Rattle.listing.proofs.read_lines.Goals as goal

pub loop-first-init : goal.loop-first-init
loop-first-init c = (going_begins _ _ (lent c.args.store.now c.args.desk.now) c.args.table.now c.requires.table_words_in_bounds c.requires.sound.0 c.requires.sound.1, same_begins _ _)

pub take_line-requires : goal.take_line-requires
take_line-requires c = is_ready c.loop-first.invariant.0

pub shape_of-store-in_err-p : goal.shape_of-store-in_err-p
shape_of-store-in_err-p c = c.take_line.auto.store ∙ c.loop-first.invariant.1.rows

pub shape_of-table-in_err-p : goal.shape_of-table-in_err-p
shape_of-table-in_err-p c = c.take_line.auto.table ∙ c.loop-first.invariant.1.table

pub returns-in_err-p : goal.returns-in_err-p
returns-in_err-p c = rw (passed_on _ c.from_residual.ensures.1) (going_stops c.loop-first.invariant.0 c.in-Some.ensures.cases (c.take_line.ensures c.loop-first.invariant.0.listed) c.in_err-p.was)

pub loop-first-smaller : goal.loop-first-smaller
loop-first-smaller c = less c.loop-first.invariant.0 c.in-Some.ensures.cases (c.take_line.ensures c.loop-first.invariant.0.listed) c.in_ok-p.was

pub loop-first-preserved : goal.loop-first-preserved
loop-first-preserved c = (going_on c.loop-first.invariant.0 c.in-Some.ensures.cases (c.take_line.ensures c.loop-first.invariant.0.listed) c.in_ok-p.was c.take_line.auto.table, same_on c.loop-first.invariant.1 c.take_line.auto.store c.take_line.auto.table)

pub shape_of-store : goal.shape_of-store
shape_of-store c = c.loop-first.invariant.1.rows

pub shape_of-table : goal.shape_of-table
shape_of-table c = c.loop-first.invariant.1.table

pub returns : goal.returns
returns c = going_ends c.loop-first.invariant.0 c.in_default.ensures.cases
