-- The proof of a cycle of calls. Assumes nothing.
use Rattle.std.proofs.Common.{◌+◌, ◌*◌}
use Rattle.evaluation.proofs.settling.+settling.Given as goal

abbrev pub decreases-settle : goal.decreases-settle
decreases-settle l = 2 * l.below

abbrev pub decreases-settle_operands : goal.decreases-settle_operands
decreases-settle_operands l = 2 * l.node + 1
