-- `simplify_marked` meets its contract. Assumes nothing.
use Rattle.calls.specs.Frame.{simplify_as, marks_as}
use Rattle.calls.proofs.simplify_marked.Goals as goal

pub returns : goal.returns
unfolding simplify_as marks_as
returns c = c.simplify_as.ensures
