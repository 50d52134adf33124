-- `put_link` meets its contract: the three words that were read are put back. Assumes nothing.
use Rattle.store.specs.Memory.{memory}
use Rattle.store.proofs.Rows.{relinked}
use Rattle.store.proofs.words.put_link.Goals as goal

pub returns : goal.returns
returns c = rw (c.put_row.ensures, c.second_at-second.ensures, c.first_at-first.ensures, c.tag_at-tag.ensures) (relinked (memory c.args.store.now) c.args.i _)
