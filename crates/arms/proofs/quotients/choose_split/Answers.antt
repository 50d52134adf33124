-- `choose_split` meets its contract. Assumes nothing.
use mathlib.Core.Path.{refl}
use Rattle.arms.specs.Tables.{split}
use Rattle.arms.proofs.Choosing.{hit, past, infix_of_lem, build, smaller_before, smaller_after}
use Rattle.arms.proofs.quotients.choose_split.Goals as goal

pub returns-in-Some : goal.returns-in-Some
unfolding split
returns-in-Some c = λ m n x y g. let p = c.in-Some.ensures m n x.within in hit _ p.0 (smaller_after refl (infix_of_lem x.at y.at) (infix_of_lem p.1.1 y.at) p.1.0)

pub returns-in-Some-parts_of : goal.returns-in-Some-parts_of
unfolding split
returns-in-Some-parts_of c = λ m n x y g. let p = c.in-Some-parts_of.ensures m n y.within in past _ (c.in_default.ensures m n x.within) (hit _ p.0 (smaller_before (infix_of_lem x.at y.at) (infix_of_lem x.at p.1.0) p.1.1))

pub returns : goal.returns
unfolding split
returns c = λ m n x y g. past _ (c.in_default.ensures m n x.within) (past _ (c.in_default-parts_of.ensures m n y.within) (build (infix_of_lem x.at y.at)))
