-- `negates` meets its contract. Assumes nothing.
use mathlib.Core.Path.{refl}
use Rattle.arms.proofs.Looking.{both_yes, both_not, compared}
use Rattle.arms.proofs.quotients.negates.Goals as goal

pub returns-in-Some : goal.returns-in-Some
returns-in-Some c = λ n t h w a. let p = c.in-Some.ensures _ n w in both_yes p.0 refl (compared c.equal_at.ensures h p.1 a)

pub returns-in-None : goal.returns-in-None
returns-in-None c = λ n t h w a. both_not _ (c.in-None.ensures _ n w) refl
