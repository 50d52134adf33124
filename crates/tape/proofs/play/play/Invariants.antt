-- `play` meets its contract: after each step the player has the definition's stack. Assumes nothing.
use Rattle.tape.proofs.Standing.{Going}
use Rattle.tape.proofs.play.play.Given as goal

abbrev pub invariant-loop-i : goal.invariant-loop-i
invariant-loop-i l = Going l.table l.counts l.tape l.i l.player.stack l.player.depth l.initial.marks l.marks
