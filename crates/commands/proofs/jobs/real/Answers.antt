-- `real` meets its contract. Assumes nothing.
use mathlib.Core.Path.{ap}
use Rattle.commands.proofs.Resulting.{real_comes, unreal_comes}
use Rattle.commands.proofs.jobs.real.Goals as goal

pub returns-in-Ok : goal.returns-in-Ok
returns-in-Ok c = real_comes _ c.args.list.now (ap (λ x. x.0) c.to_real.ensures) c.in-Ok.is (c.write_real.ensures.put, c.write_real.ensures.within)

pub returns-in-Err : goal.returns-in-Err
returns-in-Err c = unreal_comes _ c.args.list.now (ap (λ x. x.0) c.to_real.ensures) c.in-Err.is c.fault_alone.ensures
