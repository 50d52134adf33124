-- `finish` meets its contract: by the kind of the node. Assumes nothing.
use mathlib.Core.Path.{sym, ◌∙◌}
use Rattle.evaluation.proofs.Valued.{prefix_is, prefix_uses}
use Rattle.evaluation.proofs.Settled.{ended, none_noted, unmarked_finished}
use Rattle.evaluation.proofs.settling.finish.Goals as goal

pub returns-in-Infix : goal.returns-in-Infix
returns-in-Infix c = c.finish_infix.ensures (sym c.expression_at-e.ensures ∙ c.in-Infix.is)

pub returns-in-Prefix : goal.returns-in-Prefix
returns-in-Prefix c = λ n o l v h. let u = prefix_uses o l v c.expression_at-e.ensures _ c.in-Prefix.is in unmarked_finished _ o l u (ended _ o l (prefix_is o l v c.expression_at-e.ensures _ c.in-Prefix.is c.number_at.ensures c.calculate_prefix.ensures) (none_noted _ o l u) c.put_number.ensures.store_after c.put_number.ensures.fitting)

pub returns-in_default : goal.returns-in_default
returns-in_default c = c.finish_asked.ensures
