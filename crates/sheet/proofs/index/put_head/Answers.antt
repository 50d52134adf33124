-- `put_head` meets its contract. Assumes nothing.
use mathlib.Core.Path.{refl}
use Rattle.sheet.specs.Index.{headed}
use Rattle.sheet.proofs.index.put_head.Goals as goal

pub returns : goal.returns
unfolding headed
returns c = rw (c.put.ensures, c.link_of.ensures, c.word_at-word.ensures) refl
