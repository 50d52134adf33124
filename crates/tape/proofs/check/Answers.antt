-- `check` meets its contract: the first bad step, or none. Assumes nothing.
use mathlib.Core.Path.{sym, ap, ◌∙◌}
use Rattle.tape.specs.Run.{checked}
use Rattle.tape.proofs.check.Goals as goal

pub returns-in-None : goal.returns-in-None
returns-in-None c = ap checked (sym c.in-None.is) ∙ c.first_bad.ensures

pub returns-in-Some : goal.returns-in-Some
returns-in-Some c = ap checked (sym c.in-Some.is) ∙ c.first_bad.ensures
