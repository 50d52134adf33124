-- `run` meets its contract. Assumes nothing.
use Rattle.commands.proofs.Resulting.{too_long_lem}
use Rattle.commands.proofs.Rooms.{with_1024, with_4096}
use Rattle.commands.proofs.running.run.Goals as goal

pub returns-then-input-gt-MOST : goal.returns-then-input-gt-MOST
returns-then-input-gt-MOST c = too_long_lem c.args.command c.args.input.now c.args.out.now c.if-input-gt-MOST.true c.requires.1

pub returns-then-stores_little : goal.returns-then-stores_little
returns-then-stores_little c = with_1024 c.args.command c.args.input.now c.args.out.now c.if-input-gt-MOST.false (c.stores_little.ensures c.if-stores_little.true) c.run_in.ensures

pub returns : goal.returns
returns c = with_4096 c.args.command c.args.input.now c.args.out.now c.if-input-gt-MOST.false c.run_in-2.ensures
