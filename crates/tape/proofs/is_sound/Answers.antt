-- `is_sound` meets its contract. Assumes nothing.
use mathlib.Core.Path.{ap, ◌∙◌}
use Rattle.std.specs.Prelude.{is_ok}
use Rattle.tape.proofs.Checking.{none_bad}
use Rattle.tape.proofs.is_sound.Goals as goal

pub returns : goal.returns
returns c = none_bad c.first_bad.result _ c.is_none.ensures ∙ ap is_ok c.first_bad.ensures
