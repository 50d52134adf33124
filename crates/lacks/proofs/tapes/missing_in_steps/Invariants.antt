-- `missing_in_steps` meets its contract: the steps that are left name what the tape names. Assumes nothing.
use Rattle.sheet.specs.Table.{rows_of, Held}
use Rattle.lacks.proofs.Stepping.{Same}
use Rattle.lacks.proofs.tapes.missing_in_steps.Given as goal

abbrev pub invariant-loop-i : goal.invariant-loop-i
invariant-loop-i l = Held l.table l.counts → Same (rows_of l.table l.counts) l.tape l.i
