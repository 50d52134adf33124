-- `calls_entry` meets its contract. Assumes nothing.
use borrow.Author.Tests.{eq-eqb, ne_eqb}
use Rattle.sentences.proofs.calls_entry.Goals as goal

pub returns-then-calls-eq1 : goal.returns-then-calls-eq1
returns-then-calls-eq1 c = rw (eq-eqb _ _ c.if-calls-eq1.true)

pub returns-else-calls-eq1 : goal.returns-else-calls-eq1
returns-else-calls-eq1 c = rw (ne_eqb _ _ c.if-calls-eq1.false)
