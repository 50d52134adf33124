-- `read_origin` meets its contract. Assumes nothing.
use Rattle.std.proofs.Common.{sym, ◌∙◌}
use Rattle.origins.proofs.Reading.{no_origin, other_origin, origin_after}
use Rattle.origins.proofs.fields.read_origin.Goals as goal

pub returns-in_err-b : goal.returns-in_err-b
returns-in_err-b c = rw c.from_residual.ensures (sym (no_origin _ c.in_err-b.ensures.cases))

pub returns-then-b-ne64 : goal.returns-then-b-ne64
returns-then-b-ne64 c = sym (other_origin c.in_ok-b.ensures.cases c.if-b-ne64.true)

pub returns : goal.returns
returns c = c.read_after_at.ensures ∙ sym (origin_after c.in_ok-b.ensures.cases c.if-b-ne64.false)
