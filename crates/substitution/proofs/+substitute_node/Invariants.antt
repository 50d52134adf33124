-- `substitute_node` meets its contract: each return is a law of proofs/Replacing or Settling. The measure is `below`. Assumes nothing.
use Rattle.substitution.proofs.+substitute_node.Given as goal

abbrev pub decreases-substitute_node : goal.decreases-substitute_node
decreases-substitute_node l = l.below
