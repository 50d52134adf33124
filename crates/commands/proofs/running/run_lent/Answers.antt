-- `run_lent` meets its contract. Assumes nothing.
use Rattle.commands.specs.declared.words.Command.{Command}
use Rattle.commands.proofs.Resulting.{command_is, of_whole, of_parts_lem}
use Rattle.commands.proofs.running.run_lent.Goals as goal

pub returns-in-Whole : goal.returns-in-Whole
returns-in-Whole c = command_is _ c.args.input.now c.args.out.now (Command.Whole _) c.in-Whole.is (of_whole _ c.args.input.now c.args.out.now _ c.requires.1 c.run_whole.ensures)

pub returns-in-Parted : goal.returns-in-Parted
returns-in-Parted c = command_is _ c.args.input.now c.args.out.now (Command.Parted _) c.in-Parted.is (of_parts_lem _ c.args.input.now c.args.out.now _ c.listing_length-n.ensures c.sheet_of-values.ensures.bytes c.run_parted.ensures)
