-- `write_standing` meets its contract: what was passed of the listing is said. Assumes nothing.
use Rattle.origins.proofs.Sentences.{Saying}
use Rattle.origins.proofs.standing.write_standing.Given as goal

abbrev pub invariant-loop-i : goal.invariant-loop-i
invariant-loop-i l = Saying l.initial.out l.at l.text l.out l.next l.line l.passed l.i
