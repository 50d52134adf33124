-- `applied` meets its contract. Assumes nothing.
use mathlib.Core.Path.{refl}
use Rattle.arms.proofs.Outer.applied.Goals as goal

pub returns-in-Negated : goal.returns-in-Negated
returns-in-Negated c = rw c.in-Negated.is refl

pub returns-in-Before : goal.returns-in-Before
returns-in-Before c = rw c.in-Before.is refl

pub returns-in-After : goal.returns-in-After
returns-in-After c = rw c.in-After.is refl
