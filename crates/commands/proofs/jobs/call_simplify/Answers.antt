-- `call_simplify` meets its contract. Assumes nothing.
use mathlib.Core.Path.{ap}
use Rattle.commands.proofs.jobs.call_simplify.Goals as goal

pub returns-then-traced : goal.returns-then-traced
returns-then-traced c = rw c.if-traced.true (record { answered = ap (λ x. x.0.0) c.simplify_origins.ensures; marked = ap (λ x. x.0.1) c.simplify_origins.ensures })

pub returns-else-traced : goal.returns-else-traced
returns-else-traced c = rw c.if-traced.false (record { answered = ap (λ x. x.0.0) c.simplify_marked.ensures; marked = ap (λ x. x.0.1) c.simplify_marked.ensures })
