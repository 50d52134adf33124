-- `check` meets its contract. Assumes nothing.
use native.Mathlib.Omega.{arith}
use Rattle.text.specs.Letters.{bytes}
use Rattle.tape.specs.Tapes.{check}
use Rattle.console.proofs.Lines.{put_counts}
use Rattle.commands.specs.Results.{of_checked}
use Rattle.commands.proofs.Resulting.{of_text, sound_comes, unsound_comes}
use Rattle.commands.proofs.tapes.check.Goals as goal

pub returns-in-Ok : goal.returns-in-Ok
returns-in-Ok c = of_text (λ tape. of_checked (bytes "sound\n") (check tape)) _ (c.read_tape-n.ensures.put, c.read_tape-n.ensures.within) (sound_comes _ _ c.check.ensures c.in-Ok.is (c.write_bytes.ensures, put_counts c.write_bytes.ensures (omega (arith, c.requires))))

pub returns-in-Err : goal.returns-in-Err
returns-in-Err c = of_text (λ tape. of_checked (bytes "sound\n") (check tape)) _ (c.read_tape-n.ensures.put, c.read_tape-n.ensures.within) (unsound_comes _ _ c.check.ensures c.in-Err.is)
