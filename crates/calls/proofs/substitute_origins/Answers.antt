-- `substitute_origins` meets its contract. Assumes nothing.
use Rattle.calls.specs.Frame.{substitute_as}
use Rattle.calls.proofs.substitute_origins.Goals as goal

pub returns : goal.returns
unfolding substitute_as
returns c = c.substitute_as.ensures
