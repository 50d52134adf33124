-- `choose_grouped` meets its contract. Assumes nothing.
use Rattle.arms.specs.Tables.{grouped}
use Rattle.arms.proofs.Looking.{either_first, either_second, neither}
use Rattle.arms.proofs.Choosing.{hit, past, infix_of_lem, smaller_after}
use Rattle.arms.proofs.groups.choose_grouped.Goals as goal

pub returns-in-Some : goal.returns-in-Some
unfolding grouped
returns-in-Some c = λ m n x y. let p = c.in-Some.ensures m n y.within in (either_second _ p.0, hit _ p.0 (c.choose_grouped_right.ensures m n _ _ x.at y.at p.1.0 p.1.1))

pub returns-in_err-a : goal.returns-in_err-a
unfolding grouped
returns-in_err-a c = λ m n x y. rw c.from_residual.ensures (neither (c.in_err-a.ensures m n x.within) (c.in_default.ensures m n y.within))

pub returns : goal.returns
unfolding grouped
returns c = λ m n x y. let p = c.in_ok-a.ensures m n x.within in (either_first _ p.0, past _ (c.in_default.ensures m n y.within) (smaller_after c.uninverted-rhs_operator.ensures (infix_of_lem x.at y.at) (infix_of_lem p.1.1 y.at) p.1.0))
