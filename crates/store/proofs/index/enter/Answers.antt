-- `enter` meets its contract: two words are written one after the other. Assumes nothing.
use mathlib.Core.Path.{refl}
use Rattle.store.specs.Index.{with_own, joined}
use Rattle.store.proofs.index.enter.Goals as goal

pub returns : goal.returns
unfolding joined with_own
returns c = rw (c.put_link.ensures, c.with_head.ensures, c.link_at-word.ensures, c.put_row.ensures, c.with_node-own.ensures, c.link_at.ensures) refl
