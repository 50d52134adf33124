-- `sheet_fault` meets its contract. Assumes nothing.
use Rattle.std.proofs.Common.{◌-◌, ◌∙◌, length, drop, take_all, arith, length-drop}
use Rattle.faults.specs.Faulting.{sheet_fault, sheet_form}
use Rattle.faults.proofs.Telling.{no_line, a_line}
use Rattle.faults.proofs.sheet_fault.Goals as goal

pub returns-in_default : goal.returns-in_default
unfolding sheet_fault
returns-in_default c = no_line sheet_form _ c.in_default.ensures.cases ∙ rw (take_all (length c.args.text.now - c.line_start.result) (drop c.line_start.result c.args.text.now) (omega (arith, length-drop c.line_start.result c.args.text.now)), c.line_start.ensures.1)

pub returns : goal.returns
unfolding sheet_fault
returns c = c.sheet_line.ensures ∙ a_line sheet_form _ c.in-Some.ensures.cases ∙ rw (take_all (length c.args.text.now - c.line_start.result) (drop c.line_start.result c.args.text.now) (omega (arith, length-drop c.line_start.result c.args.text.now)), c.line_start.ensures.1)
