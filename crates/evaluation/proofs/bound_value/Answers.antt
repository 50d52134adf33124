-- `bound_value` meets its contract. Assumes nothing.
use Rattle.evaluation.specs.Evaluating.{bound}
use Rattle.evaluation.proofs.bound_value.Goals as goal

pub returns-in-Some : goal.returns-in-Some
unfolding bound
returns-in-Some c = rw c.in-Some.is

pub returns-in-None : goal.returns-in-None
unfolding bound
returns-in-None c = rw c.in-None.is
