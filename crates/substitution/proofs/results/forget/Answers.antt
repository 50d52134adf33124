-- `forget` meets its contract: one word more is cleared in each turn. Assumes nothing.
use Rattle.substitution.proofs.Settling.{forgets_none, forgets_more, forgets_all}
use Rattle.substitution.proofs.results.forget.Goals as goal

pub loop-k-init : goal.loop-k-init
loop-k-init c = forgets_none _

pub loop-k-preserved : goal.loop-k-preserved
loop-k-preserved c = rw (c.put.ensures, c.word_of.ensures) (forgets_more _ _ _ c.loop-k.invariant)

pub returns : goal.returns
returns c = forgets_all _ _ _ c.loop-k.invariant _ c.loop-k-test.false
