-- `first_kept` meets its contract: an origin that stands is kept. Assumes nothing.
use mathlib.Core.Path.{sym, ◌∙◌}
use Rattle.origins.proofs.Packing.{first_new, first_stays}
use Rattle.origins.proofs.words.first_kept.Goals as goal

pub returns-then-origin_in-eq0 : goal.returns-then-origin_in-eq0
returns-then-origin_in-eq0 c = c.with_origin.ensures ∙ sym (first_new c.args.word _ (sym c.origin_in.ensures ∙ c.if-origin_in-eq0.true))

pub returns : goal.returns
returns c = sym (first_stays c.args.word c.args.line (λ q. c.if-origin_in-eq0.false (c.origin_in.ensures ∙ q)))
