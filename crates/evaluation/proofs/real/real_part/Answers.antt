-- `real_part` meets its contract. Assumes nothing.
use Rattle.evaluation.proofs.Parts.{both_sides, not_below, not_above}
use Rattle.evaluation.proofs.real.real_part.Goals as goal
use Rattle.evaluation.proofs.real.real_part.Goals.{else-z-via-then-z+else-z-2, else-z-via-else-z}

pub returns-then-z-2 : goal.returns-then-z-2
returns-then-z-2 c = both_sides c.args.z c.if-z.true c.if-z-2.true

pub returns : goal.returns
returns c = elim c.else-z.branch [
  | else-z-via-then-z+else-z-2 w ↦ not_below c.args.z w.if-z.true w.if-z-2.false
  | else-z-via-else-z w ↦ not_above c.args.z w.if-z.false
]
