-- `substitute` meets its contract. Assumes nothing.
use Rattle.calls.specs.Frame.{substitute_as}
use Rattle.calls.proofs.substitute.Goals as goal

pub returns : goal.returns
unfolding substitute_as
returns c = c.substitute_as.ensures
