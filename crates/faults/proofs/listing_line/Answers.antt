-- `listing_line` meets its contract: an s line has a form of its own. Assumes nothing.
use mathlib.Core.Path.{sym, ◌∙◌}
use borrow.Author.Tests.{ne_eqb}
use Rattle.faults.specs.Faulting.{form_with, listing_form}
use Rattle.faults.proofs.listing_line.Goals as goal

pub returns-then-first-eq115 : goal.returns-then-first-eq115
unfolding form_with listing_form
returns-then-first-eq115 c = c.fields_fault.ensures ∙ sym (rw c.if-first-eq115.true)

pub returns : goal.returns
unfolding listing_form
returns c = c.node_line.ensures ∙ sym (rw (ne_eqb _ _ c.if-first-eq115.false, c.has_at.ensures))
