-- `row_matches` meets its contract. Assumes nothing.
use mathlib.Core.Path.{sym, ap, ◌∙◌}
use borrow.Author.Tests.{eq-eqb}
use Rattle.sheet.specs.Index.{name_in}
use Rattle.sheet.proofs.Seeking.{other}
use Rattle.sheet.proofs.search.row_matches.Goals as goal

pub returns-then-read-name : goal.returns-then-read-name
returns-then-read-name c = sym (rw (other c.if-read-name.true (ap name_in c.read.ensures)))

pub returns-then-not-pair_at : goal.returns-then-not-pair_at
returns-then-not-pair_at c = sym (rw (eq-eqb _ _ (sym c.if-read-name.false ∙ ap name_in c.read.ensures), sym c.pair_at.ensures ∙ c.if-not-pair_at.true))

pub returns : goal.returns
returns c = rw (eq-eqb _ _ (sym c.if-read-name.false ∙ ap name_in c.read.ensures), sym c.pair_at.ensures ∙ c.if-not-pair_at.false) c.pair_at-2.ensures
