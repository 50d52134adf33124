-- `choose_distributed` meets its contract. Assumes nothing.
use Rattle.arms.specs.Tables.{distributed}
use Rattle.arms.proofs.Choosing.{hit, past, infix_of_lem, use_it, build, distribute}
use Rattle.arms.proofs.products.choose_distributed.Goals as goal

pub returns-in-Some : goal.returns-in-Some
unfolding distributed
returns-in-Some c = λ n h x y. let p = c.in-Some.ensures _ n y.within in hit _ p.0 (distribute (infix_of_lem x.at y.at) (infix_of_lem x.at p.1.0) (infix_of_lem x.at p.1.1))

pub returns-in-Some-parts_of : goal.returns-in-Some-parts_of
unfolding distributed
returns-in-Some-parts_of c = λ n h x y. let p = c.in-Some-parts_of.ensures _ n x.within in past _ (c.in_default.ensures _ n y.within) (hit _ p.0 (distribute (infix_of_lem x.at y.at) (infix_of_lem p.1.0 y.at) (infix_of_lem p.1.1 y.at)))

pub returns-in-Some-beside_last : goal.returns-in-Some-beside_last
unfolding distributed
returns-in-Some-beside_last c = λ n h x y. let p = c.in-Some-beside_last.ensures n _ h x.within y.at in past _ (c.in_default.ensures _ n y.within) (past _ (c.in_default-parts_of.ensures _ n x.within) (hit _ p.0 (use_it p.1)))

pub returns-in-Some-beside_last-2 : goal.returns-in-Some-beside_last-2
unfolding distributed
returns-in-Some-beside_last-2 c = λ n h x y. let p = c.in-Some-beside_last-2.ensures n _ h y.within x.at in past _ (c.in_default.ensures _ n y.within) (past _ (c.in_default-parts_of.ensures _ n x.within) (past _ (c.in_default-beside_last.ensures n _ h x.within y.at) (hit _ p.0 (use_it p.1))))

pub returns : goal.returns
unfolding distributed
returns c = λ n h x y. past _ (c.in_default.ensures _ n y.within) (past _ (c.in_default-parts_of.ensures _ n x.within) (past _ (c.in_default-beside_last.ensures n _ h x.within y.at) (past _ (c.in_default-beside_last-2.ensures n _ h y.within x.at) (build (infix_of_lem x.at y.at)))))
