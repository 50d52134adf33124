-- `is_empty` meets its contract. Assumes nothing.
use Rattle.commands.proofs.Resulting.{another_number, by_byte}
use Rattle.commands.proofs.details.is_empty.Goals as goal

pub returns-then-number-ne1 : goal.returns-then-number-ne1
returns-then-number-ne1 c = another_number c.args.list.now c.args.why c.number.ensures c.if-number-ne1.true

pub returns : goal.returns
returns c = by_byte c.args.list.now c.args.why c.number.ensures _ c.if-number-ne1.false c.place.ensures c.line_start-at.ensures.1 c.byte_at.ensures
