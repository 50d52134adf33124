-- `choose_signed_product` meets its contract. Assumes nothing.
use Rattle.arms.specs.Tables.{signed_product}
use Rattle.arms.proofs.Looking.{first_of_both, either_first, finds_on}
use Rattle.arms.proofs.Choosing.{hit, past}
use Rattle.arms.proofs.products.choose_signed_product.Goals as goal

pub returns-in-Some : goal.returns-in-Some
unfolding signed_product
returns-in-Some c = λ m n x y. let p = c.in-Some.ensures m n x.within y.within in (either_first _ (first_of_both _ _ p.0), hit _ p.0 p.1)

pub returns : goal.returns
unfolding signed_product
returns c = λ m n x y. finds_on _ _ (λ arm. past _ (c.in_default.ensures m n x.within y.within)) (c.choose_moved.ensures m n x y)
