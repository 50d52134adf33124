-- `replay::slices::is_blank` meets its contract. Assumes nothing.
use mathlib.Core.Path.{◌∙◌}
use Rattle.replay.proofs.Judging.{blank_pointwise}
use Rattle.replay.proofs.slices.is_blank.Goals as goal

pub returns : goal.returns
returns c = c.eq.ensures ∙ blank_pointwise c.args.row.now c.told-row
