-- `key_of` meets its contract: word by word. Assumes nothing.
use mathlib.Core.Path.{refl}
use Rattle.store.specs.Index.{key_of}
use Rattle.store.proofs.index.key_of.Goals as goal

pub returns : goal.returns
unfolding key_of
returns c = rw (c.word_key.ensures, c.word_key-2.ensures) refl
