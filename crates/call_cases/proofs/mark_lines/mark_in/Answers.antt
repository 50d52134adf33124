-- `call_cases::marks::mark_in` meets its contract: by the row's place among four. Assumes nothing.
use Rattle.call_cases.proofs.Marking.{mark_first, mark_second, mark_third, mark_fourth}
use Rattle.call_cases.proofs.mark_lines.mark_in.Goals as goal

pub returns-in-0 : goal.returns-in-0
returns-in-0 c = mark_first c.args.digit c.args.row c.in-0.is

pub returns-in-1 : goal.returns-in-1
returns-in-1 c = mark_second c.args.digit c.args.row c.in-1.is

pub returns-in-2 : goal.returns-in-2
returns-in-2 c = mark_third c.args.digit c.args.row c.in-2.is

pub returns-in_default : goal.returns-in_default
returns-in_default c = mark_fourth c.args.digit c.args.row c.in_default.in_default-own.rest.0.0.1 c.in_default.in_default-own.rest.0.1 c.in_default.in_default-own.rest.1
