-- The proof of a cycle of calls. Assumes nothing.
use Rattle.std.proofs.Common.{◌+◌, ◌*◌}
use Rattle.lacks.proofs.+missing.Given as goal

abbrev pub decreases-first_missing : goal.decreases-first_missing
decreases-first_missing l = 2 * l.below

abbrev pub decreases-missing_below : goal.decreases-missing_below
decreases-missing_below l = 2 * l.node + 1
