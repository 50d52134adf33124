-- `choose_moved` meets its contract. Assumes nothing.
use mathlib.Core.Path.{refl}
use Rattle.arms.specs.Tables.{moved}
use Rattle.arms.proofs.Looking.{either_first, either_second, neither}
use Rattle.arms.proofs.Choosing.{hit, past, infix_of_lem, minus_of, smaller_before, smaller_after}
use Rattle.arms.proofs.groups.choose_moved.Goals as goal

pub returns-in-Some : goal.returns-in-Some
unfolding moved
returns-in-Some c = λ m n x y. let p = c.in-Some.ensures m n y.within in (either_second _ p.0, hit _ p.0 (smaller_before (infix_of_lem x.at y.at) (minus_of x.at) p.1))

pub returns-in_err-e : goal.returns-in_err-e
unfolding moved
returns-in_err-e c = λ m n x y. rw c.from_residual.ensures (neither (c.in_err-e.ensures m n x.within) (c.in_default.ensures m n y.within))

pub returns : goal.returns
unfolding moved
returns c = λ m n x y. let p = c.in_ok-e.ensures m n x.within in (either_first _ p.0, past _ (c.in_default.ensures m n y.within) (smaller_after refl (infix_of_lem x.at y.at) (minus_of y.at) p.1))
