-- `no_marks` meets its contract. Assumes nothing.
use mathlib.Core.Path.{refl}
use Rattle.memory.specs.Marks.{no_marks}
use Rattle.commands.proofs.no_marks.Goals as goal

pub returns : goal.returns
unfolding no_marks
returns c = refl
