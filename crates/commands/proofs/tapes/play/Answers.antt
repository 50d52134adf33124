-- `play` meets its contract. Assumes nothing.
use Rattle.calls.specs.Marks.{play_marks}
use Rattle.commands.specs.Results.{playing_tape}
use Rattle.commands.proofs.Resulting.{of_text_marked}
use Rattle.commands.proofs.tapes.play.Goals as goal

pub returns : goal.returns
returns c = of_text_marked (λ tape. playing_tape tape c.args.text.now c.args.values.now) (λ tape. play_marks tape c.args.values.now) _ (c.read_tape-n.ensures.put, c.read_tape-n.ensures.within) c.play_tape.ensures
