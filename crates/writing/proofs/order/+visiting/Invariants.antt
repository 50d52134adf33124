-- The cycle of visiting: `below` falls, and a node's operands come after it. Assumes nothing.
use Rattle.std.proofs.Common.{◌+◌, ◌*◌}
use Rattle.writing.proofs.order.+visiting.Given as goal

abbrev pub decreases-visit : goal.decreases-visit
decreases-visit l = 2 * l.below

abbrev pub decreases-visit_operands : goal.decreases-visit_operands
decreases-visit_operands l = 2 * l.node + 1
