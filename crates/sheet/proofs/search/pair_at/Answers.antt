-- `pair_at` meets its contract. Assumes nothing.
use mathlib.Core.Path.{sym, ◌∙◌}
use borrow.Author.Tests.{eq-eqb}
use Rattle.sheet.proofs.Seeking.{other}
use Rattle.sheet.proofs.search.pair_at.Goals as goal

pub returns-then-read-words : goal.returns-then-read-words
returns-then-read-words c = sym (rw (other c.if-read-words.true c.read.ensures))

pub returns : goal.returns
returns c = rw (eq-eqb _ _ (sym c.if-read-words.false ∙ c.read.ensures), c.read-2.ensures)
