-- The cycle of simplifying meets its contracts. Assumes nothing.
use Rattle.std.proofs.Common.{◌+◌, ◌*◌}
use Rattle.simplification.proofs.+simplifying.Given as goal

abbrev pub decreases-add_simplified : goal.decreases-add_simplified
decreases-add_simplified l = 16 * l.limit.0 + 3

abbrev pub decreases-affine : goal.decreases-affine
decreases-affine l = 16 * l.limit.0 + 4

abbrev pub decreases-again : goal.decreases-again
decreases-again l = 16 * l.limit.0 + 2

abbrev pub decreases-carry_out : goal.decreases-carry_out
decreases-carry_out l = 16 * l.limit.0 + 5

abbrev pub decreases-distribute : goal.decreases-distribute
decreases-distribute l = 16 * l.limit.0 + 4

abbrev pub decreases-double : goal.decreases-double
decreases-double l = 16 * l.limit.0 + 4

abbrev pub decreases-inverse : goal.decreases-inverse
decreases-inverse l = 16 * l.limit.0 + 3

abbrev pub decreases-perform : goal.decreases-perform
decreases-perform l = 16 * l.limit.0 + 0

abbrev pub decreases-regroup : goal.decreases-regroup
decreases-regroup l = 16 * l.limit.0 + 3

abbrev pub decreases-simplify : goal.decreases-simplify
decreases-simplify l = 16 * l.limit.0 + 1

abbrev pub decreases-simplify_function_call : goal.decreases-simplify_function_call
decreases-simplify_function_call l = 16 * l.limit.0 + 6

abbrev pub decreases-simplify_infix : goal.decreases-simplify_infix
decreases-simplify_infix l = 16 * l.limit.0 + 6

abbrev pub decreases-simplify_prefix : goal.decreases-simplify_prefix
decreases-simplify_prefix l = 16 * l.limit.0 + 6

abbrev pub decreases-smaller_regrouped : goal.decreases-smaller_regrouped
decreases-smaller_regrouped l = 16 * l.limit.0 + 4
