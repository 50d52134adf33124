-- `put_row` meets its contract: the row is written whole, or there is none. Assumes nothing.
use Rattle.store.proofs.Rows.{written, not_written}
use Rattle.store.proofs.words.put_row.Goals as goal

pub returns-then-i-store : goal.returns-then-i-store
returns-then-i-store c = written _ _ _ _ _ _

pub returns-else-i-store : goal.returns-else-i-store
returns-else-i-store c = not_written _ _ _ _ _ _ c.if-i-store.false
