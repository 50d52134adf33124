-- `missing_on_tape` meets its contract. Assumes nothing.
use Rattle.std.proofs.Common.{rules}
use Rattle.lacks.proofs.Stepping.{tape_ends}
use Rattle.lacks.proofs.tapes.missing_on_tape.Goals as goal

pub returns : goal.returns
returns c = tape_ends c.missing_on_bytes-answer.ensures (search rules) c.missing_on_bytes-answer.auto.table
