-- `canonical_words` meets its contract. Assumes nothing.
use mathlib.Core.Path.{refl}
use Rattle.sheet.proofs.layout.canonical_words.Goals as goal

pub returns : goal.returns
returns c = rw (c.canonical.ensures, c.canonical-2.ensures) refl
