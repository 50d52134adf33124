-- `link_at` meets its contract: a word of the row, where there is one. Assumes nothing.
use Rattle.store.proofs.Rows.{link_in, link_out}
use Rattle.store.proofs.words.link_at.Goals as goal

pub returns-then-i-store : goal.returns-then-i-store
returns-then-i-store c = link_in _ _

pub returns-else-i-store : goal.returns-else-i-store
returns-else-i-store c = link_out _ _ c.if-i-store.false
