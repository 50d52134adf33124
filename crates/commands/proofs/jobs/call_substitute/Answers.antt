-- `call_substitute` meets its contract. Assumes nothing.
use mathlib.Core.Path.{ap}
use Rattle.commands.proofs.jobs.call_substitute.Goals as goal

pub returns-then-traced : goal.returns-then-traced
returns-then-traced c = rw c.if-traced.true (ap (λ x. x.0) c.substitute_origins.ensures)

pub returns-else-traced : goal.returns-else-traced
returns-else-traced c = rw c.if-traced.false (ap (λ x. x.0) c.substitute.ensures)
