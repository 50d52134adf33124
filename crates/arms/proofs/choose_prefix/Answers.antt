-- `choose_prefix` meets its contract. Assumes nothing.
use Rattle.arms.specs.Arms.{prefix_plan}
use Rattle.arms.proofs.Looking.{here}
use Rattle.arms.proofs.Choosing.{use_it}
use Rattle.arms.proofs.choose_prefix.Goals as goal

pub returns-in-Plus : goal.returns-in-Plus
unfolding prefix_plan
returns-in-Plus c = rw c.in-Plus.is λ n h l. use_it (here l)

pub returns-in-Minus : goal.returns-in-Minus
unfolding prefix_plan
returns-in-Minus c = rw c.in-Minus.is c.choose_minus.ensures
