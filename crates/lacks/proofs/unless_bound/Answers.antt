-- `unless_bound` meets its contract. Assumes nothing.
use Rattle.lacks.specs.Lacking.{unless_bound}
use Rattle.lacks.proofs.unless_bound.Goals as goal

pub returns-in-Some : goal.returns-in-Some
unfolding unless_bound
returns-in-Some c = rw c.in-Some.is

pub returns-in-None : goal.returns-in-None
unfolding unless_bound
returns-in-None c = rw c.in-None.is
