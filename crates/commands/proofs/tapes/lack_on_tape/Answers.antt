-- `lack_on_tape` meets its contract. Assumes nothing.
use mathlib.Core.Path.{ap}
use Rattle.commands.proofs.Resulting.{of_10, not_10}
use Rattle.commands.proofs.tapes.lack_on_tape.Goals as goal

pub returns-then-number-eq10 : goal.returns-then-number-eq10
returns-then-number-eq10 c = of_10 c.args.text.now c.args.values.now c.args.why c.number.ensures c.if-number-eq10.true (ap (λ x. x.0) c.missing_on_tape.ensures)

pub returns : goal.returns
returns c = not_10 c.args.text.now c.args.values.now c.args.why c.number.ensures _ c.if-number-eq10.false c.fault_of.ensures
