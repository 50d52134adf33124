-- `fault_alone` meets its contract. Assumes nothing.
use Rattle.commands.proofs.Resulting.{sheet_follows, no_sheet_follows}
use Rattle.commands.proofs.details.fault_alone.Goals as goal

pub returns-then-is_empty : goal.returns-then-is_empty
returns-then-is_empty c = sheet_follows c.args.list.now c.args.why c.is_empty.ensures c.if-is_empty.true

pub returns : goal.returns
returns c = no_sheet_follows c.args.list.now c.args.why c.is_empty.ensures c.if-is_empty.false c.fault_of.ensures
