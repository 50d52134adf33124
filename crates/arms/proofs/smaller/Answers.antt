-- `smaller` meets its contract. Assumes nothing.
use Rattle.arms.proofs.Choosing.{smaller_first, smaller_second}
use Rattle.arms.proofs.smaller.Goals as goal

pub returns-then-size_at : goal.returns-then-size_at
returns-then-size_at c = λ n h l r. smaller_second h l r c.size_at-2.ensures c.size_at.ensures c.if-size_at.true

pub returns-else-size_at : goal.returns-else-size_at
returns-else-size_at c = λ n h l r. smaller_first h l r c.size_at-2.ensures c.size_at.ensures c.if-size_at.false
