-- `calculate_prefix` meets its contract. Assumes nothing.
use Rattle.evaluation.specs.Evaluating.{calculate_prefix}
use Rattle.evaluation.proofs.calculate.calculate_prefix.Goals as goal

pub returns-in-Plus : goal.returns-in-Plus
unfolding calculate_prefix
returns-in-Plus c = rw c.in-Plus.is

pub returns-in-Minus : goal.returns-in-Minus
unfolding calculate_prefix
returns-in-Minus c = rw c.in-Minus.is c.neg.ensures
