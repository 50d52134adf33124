-- `substitute` meets its contract. Assumes nothing.
use Rattle.commands.proofs.Resulting.{substituted_as, written_comes, unwritten_comes}
use Rattle.commands.proofs.jobs.substitute.Goals as goal

pub returns-in-Ok : goal.returns-in-Ok
returns-in-Ok c = substituted_as c.args.traced _ c.args.list.now c.args.out.now (written_comes c.args.list.now _ c.call_substitute.ensures c.in-Ok.is c.part.ensures.prefix_len c.part.ensures.least)

pub returns-in-Err : goal.returns-in-Err
returns-in-Err c = substituted_as c.args.traced _ c.args.list.now c.args.out.now (unwritten_comes c.args.list.now _ c.call_substitute.ensures c.in-Err.is c.fault_alone.ensures)
