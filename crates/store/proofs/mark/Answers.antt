-- `mark` meets its contract: one tag is written. Assumes nothing.
use Rattle.store.specs.Memory.{memory}
use Rattle.store.proofs.Rows.{retagged}
use Rattle.store.proofs.mark.Goals as goal

pub returns : goal.returns
returns c = rw (c.put_row.ensures, c.first_kept-tag.ensures, c.tag_at.ensures, c.first_at-first.ensures, c.second_at-second.ensures, c.link_at-link.ensures) (retagged (memory c.args.store.now) c.args.i _)
