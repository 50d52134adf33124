-- `next_line` meets its contract: what is left has the same next line. Assumes nothing.
use Rattle.std.proofs.Common.{◌≡◌, length}
use Rattle.console.specs.TapeText.{next_line}
use Rattle.console.proofs.tape.next_line.Given as goal

abbrev pub invariant-loop-b : goal.invariant-loop-b
invariant-loop-b l = next_line l.rest ≡ next_line l.s

abbrev pub decreases-loop-b : goal.decreases-loop-b
decreases-loop-b l = length l.rest
