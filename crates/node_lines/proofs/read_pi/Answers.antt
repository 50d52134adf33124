-- `read_pi` meets its contract. Assumes nothing.
use mathlib.Core.Path.{sym}
use Rattle.expression.specs.Nodes.{grown}
use Rattle.text.specs.Reading.{then}
use Rattle.text.proofs.Fields.{told, told_bad}
use Rattle.node_lines.specs.NodeLines.{pi_line}
use Rattle.node_lines.proofs.read_pi.Goals as goal

pub returns-in_err-s : goal.returns-in_err-s
unfolding pi_line then grown
returns-in_err-s c lines = rw c.from_residual.ensures record { seen = λ earlier q. sym (rw (told_bad c.end_line.ensures c.in_err-s.was)); within = tt }

pub returns : goal.returns
unfolding pi_line then grown
returns c lines = record { seen = λ earlier q. sym (rw (told c.end_line.ensures c.in_ok-s.was)); within = tt }
