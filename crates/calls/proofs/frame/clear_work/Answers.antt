-- `clear_work` meets its contract. Assumes nothing.
use Rattle.std.proofs.Common.{rules}
use mathlib.Core.Path.{refl}
use Rattle.calls.proofs.Framing.{clears}
use Rattle.calls.proofs.frame.clear_work.Goals as goal

pub returns : goal.returns
returns c = clears _ _ _ (search rules) refl (search rules)
