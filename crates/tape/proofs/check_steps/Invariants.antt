-- `check_steps` meets its contract: the steps that are left. Assumes nothing.
use Rattle.tape.proofs.Checking.{Rest}
use Rattle.tape.proofs.check_steps.Given as goal

abbrev pub invariant-loop-i : goal.invariant-loop-i
invariant-loop-i l = Rest l.tape l.count l.i l.values
