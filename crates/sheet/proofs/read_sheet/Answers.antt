-- `read_sheet` meets its contract. The invariant is `Reading`: what is left of the text, from these rows on, is the whole. Assumes nothing.
use native.Mathlib.Omega.{arith}
use Rattle.expression.proofs.Passing.{passed_on}
use Rattle.sheet.proofs.Sheets.{reading_begins, reading_less, reading_goes_on, reading_stops, reading_ends}
use Rattle.sheet.proofs.read_sheet.Goals as goal

pub loop-first-init : goal.loop-first-init
loop-first-init c = reading_begins _ _ c.requires

pub take_line-requires : goal.take_line-requires
take_line-requires c = (c.loop-first.invariant.room, c.loop-first.invariant.held)

pub loop-first-smaller : goal.loop-first-smaller
loop-first-smaller c = omega (arith, reading_less c.loop-first.invariant (rw c.in_ok-counts.was at c.take_line.ensures))

pub loop-first-preserved : goal.loop-first-preserved
loop-first-preserved c = reading_goes_on c.loop-first.invariant c.in-Some.ensures.cases c.take_line.auto.table (rw c.in_ok-counts.was at c.take_line.ensures)

pub returns-in_err-counts : goal.returns-in_err-counts
returns-in_err-counts c = rw (passed_on _ c.from_residual.ensures.1) (reading_stops c.loop-first.invariant c.in-Some.ensures.cases (rw c.in_err-counts.was at c.take_line.ensures), tt)

pub shape_of-table : goal.shape_of-table
shape_of-table c = c.loop-first.invariant.same

pub returns : goal.returns
returns c = (reading_ends c.loop-first.invariant c.in_default.ensures.cases, c.loop-first.invariant.held)
