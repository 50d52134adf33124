-- `write_tape` meets its contract. The invariant: the lines of the bytes that were passed are put. Assumes nothing.
use Rattle.console.proofs.TapeLines.{Written}
use Rattle.console.proofs.tape.write_tape.Given as goal

abbrev pub invariant-loop-i : goal.invariant-loop-i
invariant-loop-i l = Written l.initial.out l.tape l.out l.at l.i
