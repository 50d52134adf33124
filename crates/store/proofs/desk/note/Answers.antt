-- `note` meets its contract: one row after the other. Assumes nothing.
use Rattle.store.proofs.Noting.{notes}
use Rattle.store.proofs.desk.note.Goals as goal

pub returns : goal.returns
returns c = notes _ _ _ c.mark_row.ensures c.mark_row-2.ensures
