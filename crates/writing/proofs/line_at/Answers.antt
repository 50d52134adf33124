-- `line_at` meets its contract. Assumes nothing.
use mathlib.Core.Path.{◌∙◌}
use Rattle.writing.specs.Ordering.{line_at}
use Rattle.writing.proofs.line_at.Goals as goal

pub returns : goal.returns
unfolding line_at
returns c = c.lined.ensures ∙ rw (c.expression_at.ensures, c.read-node.ensures)
