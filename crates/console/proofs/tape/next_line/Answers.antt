-- `next_line` meets its contract: what is left has the same next line. Assumes nothing.
use Rattle.std.proofs.Common.{◌∙◌}
use Rattle.console.proofs.TapeLines.{line_on, line_ends, line_none}
use Rattle.console.proofs.tape.next_line.Goals as goal

pub returns-then-b-eq-LF : goal.returns-then-b-eq-LF
returns-then-b-eq-LF c = line_ends c.in-Some.ensures.cases c.if-b-eq-LF.true ∙ c.loop-b.invariant

pub loop-b-preserved : goal.loop-b-preserved
loop-b-preserved c = line_on c.in-Some.ensures.cases c.if-b-eq-LF.false ∙ c.loop-b.invariant

pub returns : goal.returns
returns c = line_none _ c.in_default.ensures.cases ∙ c.loop-b.invariant
