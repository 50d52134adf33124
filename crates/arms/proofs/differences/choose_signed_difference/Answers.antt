-- `choose_signed_difference` meets its contract. Assumes nothing.
use Rattle.arms.specs.Tables.{signed_difference}
use Rattle.arms.proofs.Choosing.{hit, past, infix_of_lem, again, smaller_negated, build}
use Rattle.arms.proofs.differences.choose_signed_difference.Goals as goal

pub returns-in-Some : goal.returns-in-Some
unfolding signed_difference
returns-in-Some c = λ m n x y g. let p = c.in-Some.ensures m n y.within in hit _ p.0 (again (infix_of_lem x.at p.1))

pub returns-in-Some-negated : goal.returns-in-Some-negated
unfolding signed_difference
returns-in-Some-negated c = λ m n x y g. let p = c.in-Some-negated.ensures m n x.within in past _ (c.in_default.ensures m n y.within) (hit _ p.0 (smaller_negated (infix_of_lem x.at y.at) (infix_of_lem p.1 y.at)))

pub returns-in-Some-choose_grouped : goal.returns-in-Some-choose_grouped
unfolding signed_difference
returns-in-Some-choose_grouped c = λ m n x y g. let p = c.in-Some-choose_grouped.ensures m n x y in past _ (c.in_default.ensures m n y.within) (past _ (c.in_default-negated.ensures m n x.within) (hit _ p.0 (p.1)))

pub returns : goal.returns
unfolding signed_difference
returns c = λ m n x y g. past _ (c.in_default.ensures m n y.within) (past _ (c.in_default-negated.ensures m n x.within) (past _ (c.in_default-choose_grouped.ensures m n x y) (build (infix_of_lem x.at y.at))))
