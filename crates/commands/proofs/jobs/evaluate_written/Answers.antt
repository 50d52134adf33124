-- `evaluate_written` meets its contract. Assumes nothing.
use mathlib.Core.Path.{ap}
use Rattle.commands.proofs.Resulting.{same_missing, value_comes, lack_comes}
use Rattle.commands.proofs.jobs.evaluate_written.Goals as goal

pub returns-in-Ok : goal.returns-in-Ok
returns-in-Ok c = value_comes _ _ c.args.values.now _ (ap (λ x. x.0) c.evaluate.ensures) c.in-Ok.is (c.write_value.ensures.put, c.write_value.ensures.within)

pub returns-in-Err : goal.returns-in-Err
returns-in-Err c = lack_comes _ _ c.args.values.now _ (ap (λ x. x.0) c.evaluate.ensures) _ (same_missing _ _ _ (ap (λ x. x.1) c.evaluate.ensures)) c.in-Err.is c.lack_of.ensures
