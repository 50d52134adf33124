-- `evaluate_marked` meets its contract. Assumes nothing.
use mathlib.Core.Path.{refl}
use Rattle.memory.specs.Marks.{no_marks}
use Rattle.calls.proofs.Framing.{ends, zeroed_alike}
use Rattle.calls.proofs.evaluate_marked.Goals as goal

pub returns : goal.returns
unfolding no_marks
returns c = ends _ _ (c.evaluate_texts-answer.ensures refl) c.clear_work.ensures (zeroed_alike _ _ c.evaluate_texts-answer.auto.store c.evaluate_texts-answer.auto.table)
