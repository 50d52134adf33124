-- `evaluate` meets its contract. Assumes nothing.
use mathlib.Core.Path.{ap}
use Rattle.commands.proofs.Resulting.{same_missing, value_comes, lack_comes}
use Rattle.commands.proofs.jobs.evaluate.Goals as goal

pub returns-in-Ok : goal.returns-in-Ok
returns-in-Ok c = record { comes = value_comes _ c.args.list.now c.args.values.now _ (ap (λ x. x.0.0) c.evaluate_marked.ensures) c.in-Ok.is (c.write_value.ensures.put, c.write_value.ensures.within); marked = ap (λ x. x.0.1) c.evaluate_marked.ensures }

pub returns-in-Err : goal.returns-in-Err
returns-in-Err c = record { comes = lack_comes _ c.args.list.now c.args.values.now _ (ap (λ x. x.0.0) c.evaluate_marked.ensures) _ (same_missing _ _ _ (ap (λ x. x.1) c.evaluate_marked.ensures)) c.in-Err.is c.lack_of.ensures; marked = ap (λ x. x.0.1) c.evaluate_marked.ensures }
