-- `write_steps` meets its contract. The invariant: the lines of the steps that were passed stand, and those of the steps that are left are to come. Assumes nothing.
use Rattle.shown.proofs.Turns.{Showing}
use Rattle.shown.proofs.write_steps.Given as goal

abbrev pub invariant-loop-i : goal.invariant-loop-i
invariant-loop-i l = Showing l.initial.out l.tape l.out l.at l.i
