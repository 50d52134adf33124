-- `finish_infix` meets its contract: the value of the operation. Assumes nothing.
use mathlib.Core.Path.{refl}
use Rattle.evaluation.proofs.Valued.{not_power, plain_unused, infix_is, infix_uses}
use Rattle.evaluation.proofs.Settled.{ended, none_noted, unmarked_finished}
use borrow.Enum.Refused.{opened}
use Rattle.evaluation.proofs.settling.finish_infix.Goals as goal

pub returns-in-Caret : goal.returns-in-Caret
returns-in-Caret c = λ e. c.finish_asked.ensures

pub returns : goal.returns
returns c = λ e n o l v h. let u = infix_uses o l v refl _ e c.number_at.ensures c.number_at-2.ensures (plain_unused _ _ _ _ (not_power _ (opened c.in_default.in_default-own.keys2))) in unmarked_finished _ o l u (ended _ o l (infix_is o l v refl _ e c.number_at.ensures c.number_at-2.ensures (c.arithmetic-value.ensures _ (not_power _ (opened c.in_default.in_default-own.keys2)))) (none_noted _ o l u) c.put_number.ensures.store_after c.put_number.ensures.fitting)
