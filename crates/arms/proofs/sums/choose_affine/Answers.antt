-- `choose_affine` meets its contract. Assumes nothing.
use Rattle.arms.specs.Tables.{affine_sum}
use Rattle.arms.proofs.Choosing.{hit, past, infix_of_lem, build}
use Rattle.arms.proofs.sums.choose_affine.Goals as goal

pub returns-in-Some : goal.returns-in-Some
unfolding affine_sum
returns-in-Some c = λ n h x y. let p = c.in-Some.ensures n h x.within y.within in hit _ p.0 (p.1)

pub returns-in-Some-choose_like_products : goal.returns-in-Some-choose_like_products
unfolding affine_sum
returns-in-Some-choose_like_products c = λ n h x y. let p = c.in-Some-choose_like_products.ensures n h x.within y.within in past _ (c.in_default.ensures n h x.within y.within) (hit _ p.0 (p.1))

pub returns-in-Some-choose_like_sums : goal.returns-in-Some-choose_like_sums
unfolding affine_sum
returns-in-Some-choose_like_sums c = λ n h x y. let p = c.in-Some-choose_like_sums.ensures n h x.within y.within in past _ (c.in_default.ensures n h x.within y.within) (past _ (c.in_default-choose_like_products.ensures n h x.within y.within) (hit _ p.0 (p.1)))

pub returns-in-Some-choose_grouped : goal.returns-in-Some-choose_grouped
unfolding affine_sum
returns-in-Some-choose_grouped c = λ n h x y. let p = c.in-Some-choose_grouped.ensures _ n x y in past _ (c.in_default.ensures n h x.within y.within) (past _ (c.in_default-choose_like_products.ensures n h x.within y.within) (past _ (c.in_default-choose_like_sums.ensures n h x.within y.within) (hit _ p.0 (p.1))))

pub returns : goal.returns
unfolding affine_sum
returns c = λ n h x y. past _ (c.in_default.ensures n h x.within y.within) (past _ (c.in_default-choose_like_products.ensures n h x.within y.within) (past _ (c.in_default-choose_like_sums.ensures n h x.within y.within) (past _ (c.in_default-choose_grouped.ensures _ n x y) (build (infix_of_lem x.at y.at)))))
