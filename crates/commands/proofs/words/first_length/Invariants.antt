-- `first_length` meets its contract. Assumes nothing.
use Rattle.commands.proofs.FirstWord.{Within}
use Rattle.commands.proofs.words.first_length.Given as goal

abbrev pub invariant-loop-i : goal.invariant-loop-i
invariant-loop-i l = Within l.words l.i
