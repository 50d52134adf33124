-- `plain_line` meets its contract. Assumes nothing.
use Rattle.sentences.proofs.Entries.{by_place, by_operation}
use borrow.Enum.Refused.{opened}
use Rattle.sentences.proofs.plain_line.Goals as goal

pub returns-in_default : goal.returns-in_default
returns-in_default c = by_place c.args.why (opened c.in_default.in_default-own.keys2) c.placed_line.ensures c.number.ensures c.place.ensures

pub returns : goal.returns
returns c = by_operation c.in-Need.is c.need_line.ensures
