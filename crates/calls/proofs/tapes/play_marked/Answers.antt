-- `play_marked` meets its contract. Assumes nothing.
use mathlib.Core.Path.{refl}
use Rattle.std.proofs.Common.{rules}
use Rattle.memory.specs.Marks.{no_marks}
use Rattle.calls.proofs.Taping.{plays_ends}
use Rattle.calls.proofs.tapes.play_marked.Goals as goal

pub returns : goal.returns
unfolding no_marks
returns c = plays_ends (c.play_texts-answer.ensures refl) (search rules) c.play_texts-answer.auto.table
