-- `fault_of` meets its contract. Assumes nothing.
use Rattle.commands.proofs.Resulting.{of_1, of_3, of_others}
use Rattle.commands.proofs.details.fault_of.Goals as goal

pub returns-then-number-eq1 : goal.returns-then-number-eq1
returns-then-number-eq1 c = of_1 c.args.list.now c.args.values.now c.args.why c.number-number.ensures c.if-number-eq1.true c.place.ensures c.listing_fault.ensures

pub returns-then-number-eq3 : goal.returns-then-number-eq3
returns-then-number-eq3 c = of_3 c.args.list.now c.args.values.now c.args.why c.number-number.ensures c.if-number-eq1.false c.if-number-eq3.true c.place-then-number-eq3.ensures c.sheet_fault.ensures

pub returns : goal.returns
returns c = of_others c.args.list.now c.args.values.now c.args.why c.number-number.ensures c.if-number-eq1.false c.if-number-eq3.false
