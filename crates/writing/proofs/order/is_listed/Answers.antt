-- `is_listed` meets its contract. Assumes nothing.
use mathlib.Core.Path.{sym}
use borrow.Author.Tests.{lt-ltb, le-ltb}
use Rattle.writing.proofs.order.is_listed.Goals as goal

pub returns-then-line-count : goal.returns-then-line-count
returns-then-line-count c = sym (rw (← c.link_at-line.ensures, lt-ltb _ _ c.if-line-count.true, ← c.read.ensures))

pub returns-else-line-count : goal.returns-else-line-count
returns-else-line-count c = sym (rw (← c.link_at-line.ensures, le-ltb _ _ c.if-line-count.false))
