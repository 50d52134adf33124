-- `compile` meets its contract. Assumes nothing.
use mathlib.Core.Path.{ap}
use Rattle.commands.proofs.Resulting.{tape_comes, no_tape_comes}
use Rattle.commands.proofs.tapes.compile.Goals as goal

pub returns-in-Ok : goal.returns-in-Ok
returns-in-Ok c = tape_comes _ c.args.list.now _ c.empty_tape-tape.ensures (ap (λ x. x.0) c.compile.ensures) c.in-Ok.is c.part-n.ensures.least (c.write_tape.ensures.put, c.write_tape.ensures.within)

pub returns-in-Err : goal.returns-in-Err
returns-in-Err c = no_tape_comes _ c.args.list.now _ c.empty_tape-tape.ensures (ap (λ x. x.0) c.compile.ensures) c.in-Err.is c.fault_alone.ensures
