-- `count_call` meets its contract: one more than the desk says. Assumes nothing.
use mathlib.Core.Path.{refl}
use Rattle.tasks.proofs.count_call.Goals as goal

pub returns : goal.returns
returns c = rw (c.set_calls.ensures, c.one_more-calls.ensures, c.calls_made.ensures) refl
