-- `replay::line::line_of` is safe and ends: each byte once. The invariant: the fields are as many as they were. Assumes nothing.
use mathlib.Core.Path.{◌≡◌}
use lib.ListN.{length}
use Rattle.replay.proofs.line.line_of.Given as goal

abbrev pub invariant-loop-byte : goal.invariant-loop-byte
invariant-loop-byte l = 12 ≡ length l.fields
