-- `call_cases::marks::is_right` meets its contract: the answer and the memory, then the marks. Assumes nothing.
use mathlib.Core.Bool.{not}
use mathlib.Core.Path.{◌∙◌, ap}
use Rattle.replay.proofs.Judging.{first_no, first_yes}
use Rattle.call_cases.proofs.mark_lines.is_right.Goals as goal

pub returns-then-not-is_right : goal.returns-then-not-is_right
returns-then-not-is_right g c = first_no _ _ c.is_right.ensures (ap not c.if-not-is_right.true)

pub returns : goal.returns
returns g c = c.is_marked.ensures ∙ first_yes _ _ c.is_right.ensures (ap not c.if-not-is_right.false)
