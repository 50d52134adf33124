-- `finish_asked` meets its contract: the rows are marked, and then the value stands in the node's place, if there is one. Assumes nothing.
use mathlib.Core.Path.{sym, ◌∙◌}
use Rattle.evaluation.proofs.Settled.{ended, not_ended, marked_finished}
use borrow.Enum.Refused.{opened}
use Rattle.evaluation.proofs.settling.finish_asked.Goals as goal

pub returns-in_default : goal.returns-in_default
returns-in_default c = λ n o l v h. let a = c.value_of-asked.ensures n o l v h in marked_finished _ o l c.note.ensures a.1 λ q. not_ended _ o l v a.0 (opened c.in_default.in_default-own.keys2)

pub returns : goal.returns
returns c = λ n o l v h. let a = c.value_of-asked.ensures n o l v h in marked_finished _ o l c.note.ensures a.1 λ q. ended _ o l (sym c.in-Value.is ∙ a.0) q c.put_number.ensures.store_after c.put_number.ensures.fitting
