-- `write_step` meets its contract: head, real part and imaginary part. Assumes nothing.
use mathlib.Core.Path.{◌∙◌}
use native.Mathlib.Omega.{arith}
use Rattle.steps.proofs.Writing.{little_eight, put_as, step_put, little_goes, head_goes}
use Rattle.steps.proofs.bytes.write_step.Goals as goal

pub write_bytes-q-requires : goal.write_bytes-q-requires
write_bytes-q-requires c = let x = head_goes _ c.write_head-p.ensures in rw c.to_le_bytes.ensures (omega (arith, c.requires, x.next, x.long))

pub write_bytes-requires : goal.write_bytes-requires
write_bytes-requires c =
    let x = head_goes _ c.write_head-p.ensures in
    let y = little_goes 8 _ (put_as (c.to_le_bytes.ensures ∙ little_eight _) c.write_bytes-q.ensures) in
    rw c.to_le_bytes-2.ensures (omega (arith, c.requires, x.next, x.long, y.next, y.long))

pub returns : goal.returns
returns c =
    step_put _ _ c.fields_of-f.ensures c.write_head-p.ensures
    (put_as (c.to_le_bytes.ensures ∙ little_eight _) c.write_bytes-q.ensures)
    (put_as (c.to_le_bytes-2.ensures ∙ little_eight _) c.write_bytes.ensures)
