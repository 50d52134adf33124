-- `play_tape` meets its contract. Assumes nothing.
use mathlib.Core.Path.{refl, ap}
use Rattle.commands.proofs.Resulting.{value_comes, lack_comes}
use Rattle.commands.proofs.tapes.play_tape.Goals as goal

pub returns-in-Ok : goal.returns-in-Ok
returns-in-Ok c = record { comes = value_comes _ c.args.text.now c.args.values.now _ (ap (λ x. x.0.0) c.play_marked.ensures) c.in-Ok.is (c.write_value.ensures.put, c.write_value.ensures.within); marked = ap (λ x. x.0.1) c.play_marked.ensures }

pub returns-in-Err : goal.returns-in-Err
returns-in-Err c = record { comes = lack_comes _ c.args.text.now c.args.values.now _ (ap (λ x. x.0.0) c.play_marked.ensures) _ refl c.in-Err.is c.lack_on_tape.ensures; marked = ap (λ x. x.0.1) c.play_marked.ensures }
