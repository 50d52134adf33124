-- `listing_fault` meets its contract. Assumes nothing.
use Rattle.std.proofs.Common.{◌-◌, ◌∙◌, length, drop, take_all, arith, length-drop}
use Rattle.faults.specs.Faulting.{listing_fault, listing_form}
use Rattle.faults.proofs.Telling.{no_line, a_line}
use Rattle.faults.proofs.listing_fault.Goals as goal

pub returns-in_default : goal.returns-in_default
unfolding listing_fault
returns-in_default c = no_line listing_form _ c.in_default.ensures.cases ∙ rw (take_all (length c.args.text.now - c.line_start.result) (drop c.line_start.result c.args.text.now) (omega (arith, length-drop c.line_start.result c.args.text.now)), c.line_start.ensures.1)

pub returns : goal.returns
unfolding listing_fault
returns c = c.listing_line.ensures ∙ a_line listing_form _ c.in-Some.ensures.cases ∙ rw (take_all (length c.args.text.now - c.line_start.result) (drop c.line_start.result c.args.text.now) (omega (arith, length-drop c.line_start.result c.args.text.now)), c.line_start.ensures.1)
