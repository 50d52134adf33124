-- `played` meets its contract. Assumes nothing.
use mathlib.Core.Path.{ap}
use Rattle.commands.proofs.Resulting.{same_room, played_comes, unplayed_comes}
use Rattle.commands.proofs.jobs.played.Goals as goal

pub returns-in-Ok : goal.returns-in-Ok
returns-in-Ok c = played_comes _ c.args.list.now c.args.values.now c.args.out.now (ap (λ x. x.0) c.simplify.ensures) _ c.in-Ok.is c.part-n.ensures.least (same_room _ (ap (λ x. x.1) c.simplify.ensures)) c.evaluate_written.ensures

pub returns-in-Err : goal.returns-in-Err
returns-in-Err c = unplayed_comes _ c.args.list.now c.args.values.now c.args.out.now (ap (λ x. x.0) c.simplify.ensures) c.in-Err.is c.fault_of.ensures
