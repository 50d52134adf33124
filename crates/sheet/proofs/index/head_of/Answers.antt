-- `head_of` meets its contract: by what the word has. Assumes nothing.
use mathlib.Core.Path.{ap}
use native.Mathlib.Omega.{arith}
use Rattle.sheet.specs.Index.{head_in}
use Rattle.sheet.proofs.Indexing.{counting_none, counting_past, head_home, head_elsewhere}
use Rattle.sheet.proofs.index.head_of.Goals as goal

pub returns-in_err-j : goal.returns-in_err-j
returns-in_err-j c = rw c.from_residual.ensures (counting_none _ _ _ _ (omega (arith, c.in_err-j.ensures, ap head_in c.word_at.ensures)))

pub returns-then-count-j : goal.returns-then-count-j
returns-then-count-j c = counting_past _ _ _ _ (omega (arith, c.in_ok-j.ensures, ap head_in c.word_at.ensures))

pub returns-then-word_at-bucket : goal.returns-then-word_at-bucket
returns-then-word_at-bucket c = head_home _ _ _ _ (omega (arith, c.in_ok-j.ensures, ap head_in c.word_at.ensures)) c.if-count-j.false (rw c.word_at-2.ensures at c.if-word_at-bucket.true)

pub returns-else-word_at-bucket : goal.returns-else-word_at-bucket
returns-else-word_at-bucket c = head_elsewhere _ _ _ _ (omega (arith, c.in_ok-j.ensures, ap head_in c.word_at.ensures)) c.if-count-j.false (rw c.word_at-2.ensures at c.if-word_at-bucket.false)
