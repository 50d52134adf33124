-- `show` meets its contract. Assumes nothing.
use Rattle.commands.specs.Results.{shown_tape}
use Rattle.commands.proofs.Resulting.{of_text, sound_comes, unsound_comes}
use Rattle.commands.proofs.tapes.show.Goals as goal

pub returns-in-Ok : goal.returns-in-Ok
returns-in-Ok c = of_text shown_tape _ (c.read_tape-n.ensures.put, c.read_tape-n.ensures.within) (sound_comes _ _ c.check.ensures c.in-Ok.is (c.write_steps.ensures.put, c.write_steps.ensures.within))

pub returns-in-Err : goal.returns-in-Err
returns-in-Err c = of_text shown_tape _ (c.read_tape-n.ensures.put, c.read_tape-n.ensures.within) (unsound_comes _ _ c.check.ensures c.in-Err.is)
