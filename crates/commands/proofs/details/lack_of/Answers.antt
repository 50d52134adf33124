-- `lack_of` meets its contract. Assumes nothing.
use mathlib.Core.Path.{ap}
use Rattle.commands.proofs.Resulting.{of_10, not_10}
use Rattle.commands.proofs.details.lack_of.Goals as goal

pub returns-then-number-eq10 : goal.returns-then-number-eq10
returns-then-number-eq10 c = of_10 c.args.list.now c.args.values.now c.args.why c.number.ensures c.if-number-eq10.true (ap (λ x. x.0) c.missing_in_job.ensures)

pub returns : goal.returns
returns c = not_10 c.args.list.now c.args.values.now c.args.why c.number.ensures _ c.if-number-eq10.false c.fault_of.ensures
