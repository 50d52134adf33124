-- `note` meets its contract: one row, and then the other. Assumes nothing.
use mathlib.Core.Path.{sym, ap, ◌∙◌}
use Rattle.memory.specs.Marks.{noted}
use Rattle.memory.proofs.Marks.{noted_append}
use Rattle.evaluation.proofs.note.Goals as goal

pub returns : goal.returns
returns c = c.mark-2.ensures ∙ ap (noted _) c.mark.ensures ∙ sym (noted_append _ _ _)
