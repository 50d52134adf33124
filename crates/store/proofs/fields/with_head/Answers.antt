-- `with_head` meets its contract: by which half of the word has the bucket. Assumes nothing.
use mathlib.Core.Path.{refl}
use borrow.Author.Tests.{eq-eqb, ne_eqb}
use Rattle.store.proofs.fields.with_head.Goals as goal

pub returns-then-bucket-eq0 : goal.returns-then-bucket-eq0
returns-then-bucket-eq0 c = rw (eq-eqb _ _ c.if-bucket-eq0.true) refl

pub returns-else-bucket-eq0 : goal.returns-else-bucket-eq0
returns-else-bucket-eq0 c = rw (ne_eqb _ _ c.if-bucket-eq0.false) refl
