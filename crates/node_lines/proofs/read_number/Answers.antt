-- `read_number` meets its contract. Assumes nothing.
use mathlib.Core.Path.{sym}
use Rattle.expression.specs.Nodes.{grown}
use Rattle.text.specs.Reading.{then}
use Rattle.node_lines.specs.NodeLines.{number_fields}
use Rattle.text.proofs.Fields.{told, told_bad}
use Rattle.origins.proofs.Ending.{line_ends}
use Rattle.node_lines.proofs.read_number.Goals as goal

pub returns-in_err-re : goal.returns-in_err-re
unfolding number_fields then grown
returns-in_err-re c = λ lines. rw c.from_residual.ensures record { seen = λ earlier q. sym (rw (told_bad c.hex_field.ensures c.in_err-re.was)); within = tt }

pub returns-in_err-im : goal.returns-in_err-im
unfolding number_fields then grown
returns-in_err-im c = λ lines. rw c.from_residual-in_err-im.ensures record { seen = λ earlier q. sym (rw (told c.hex_field.ensures c.in_ok-re.was, told_bad (line_ends c.end_line.ensures c.read_hex.ensures) c.in_err-im.was)); within = tt }

pub returns : goal.returns
unfolding number_fields then grown
returns c = λ lines. record { seen = λ earlier q. sym (rw (told c.hex_field.ensures c.in_ok-re.was, told (line_ends c.end_line.ensures c.read_hex.ensures) c.in_ok-im.was, c.from_bits.ensures, c.from_bits-2.ensures)); within = tt }
