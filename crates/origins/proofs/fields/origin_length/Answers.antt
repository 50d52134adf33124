-- `origin_length` meets its contract. Assumes nothing.
use mathlib.Core.Path.{sym, ap, ◌∙◌}
use Prim.Native.Nat.{◌+◌}
use Rattle.origins.proofs.Lengths.{none_length, some_length}
use Rattle.origins.proofs.fields.origin_length.Goals as goal

pub returns-then-origin-eq0 : goal.returns-then-origin-eq0
returns-then-origin-eq0 c = none_length c.if-origin-eq0.true

pub returns : goal.returns
returns c = ap (λ k. k + 1) c.decimal_length.ensures.0 ∙ sym (some_length c.args.origin c.if-origin-eq0.false)
