-- `read_node` meets its contract. Assumes nothing.
use Rattle.std.proofs.Common.{sym, ◌∙◌, eq-eqb, ne_eqb}
use Rattle.text.specs.Reading.{then}
use Rattle.text.proofs.Running.{ended_end, ended_is, ended_other}
use Rattle.node_lines.specs.NodeLines.{line_by}
use Rattle.node_lines.proofs.read_node.Goals as goal

pub returns-then-first-eq112 : goal.returns-then-first-eq112
unfolding line_by
returns-then-first-eq112 c = record { seen = λ earlier q. (c.read_pi.ensures _).seen earlier q ∙ sym (rw (eq-eqb _ _ c.if-first-eq112.true)); within = (c.read_pi.ensures _).within }

pub returns-in_err-second : goal.returns-in_err-second
unfolding line_by then
returns-in_err-second c = rw c.from_residual.ensures record { seen = λ earlier q. sym (rw (ne_eqb _ _ c.if-first-eq112.false, ended_end c.args.first 9 c.args.s.now c.in_err-second.ensures.cases)); within = tt }

pub returns-then-second-ne-TAB : goal.returns-then-second-ne-TAB
unfolding line_by then
returns-then-second-ne-TAB c = record { seen = λ earlier q. sym (rw (ne_eqb _ _ c.if-first-eq112.false, ended_other c.args.first 9 c.in_ok-second.ensures.cases c.if-second-ne-TAB.true)); within = tt }

pub returns : goal.returns
unfolding line_by then
returns c = record { seen = λ earlier q. c.read_fields.ensures.seen earlier q ∙ sym (rw (ne_eqb _ _ c.if-first-eq112.false, ended_is c.args.first 9 c.in_ok-second.ensures.cases c.if-second-ne-TAB.false)); within = c.read_fields.ensures.within }
