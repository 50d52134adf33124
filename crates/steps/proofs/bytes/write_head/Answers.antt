-- `write_head` meets its contract: four numbers, one after another. Assumes nothing.
use mathlib.Core.Path.{sym, ◌∙◌}
use native.Mathlib.Omega.{arith}
use Rattle.steps.proofs.Writing.{little_one, little_two, little_four, put_as, head_put}
use Rattle.steps.proofs.bytes.write_head.Goals as goal

pub returns : goal.returns
returns c =
    head_put c.args.f
    (put_as (sym (little_one _ (omega (arith, c)))) c.write_byte-p.ensures)
    (put_as (sym (little_one _ (omega (arith, c)))) c.write_byte-q.ensures)
    (put_as (c.to_le_bytes.ensures ∙ little_two _) c.write_bytes-r.ensures)
    (put_as (c.to_le_bytes-2.ensures ∙ little_four _) c.write_bytes.ensures)
