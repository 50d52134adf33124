-- `packed_sheet` meets its contract: by the two kinds of an answer. Assumes nothing.
use mathlib.Core.Path.{refl}
use Rattle.timed.proofs.packing.packed_sheet.Goals as goal

pub returns-in-Ok : goal.returns-in-Ok
returns-in-Ok c = rw (c.in-Ok.is, c.packed_counts.ensures) refl

pub returns-in-Err : goal.returns-in-Err
returns-in-Err c = rw (c.in-Err.is, c.refused.ensures) refl
