-- `choose_product` meets its contract. Assumes nothing.
use Rattle.arms.specs.Tables.{product_plan}
use Rattle.arms.proofs.Looking.{so, either_first, either_second, neither}
use Rattle.arms.proofs.Choosing.{hit, past, numeral, use_it, build, fold}
use Rattle.arms.proofs.products.choose_product.Goals.{then-is_zero_number-via-then-is_zero_number, then-is_zero_number-via-else-is_zero_number+then-is_zero_number-2}
use Rattle.arms.proofs.products.choose_product.Goals as goal

pub returns-then-is_zero_number : goal.returns-then-is_zero_number
unfolding product_plan
returns-then-is_zero_number c = λ n h x y. hit _ (elim c.then-is_zero_number.branch [ then-is_zero_number-via-then-is_zero_number w ↦ either_first _ (so (c.is_zero_number.ensures _) w.if-is_zero_number.true) | then-is_zero_number-via-else-is_zero_number+then-is_zero_number-2 w ↦ either_second _ (so (w.is_zero_number-else-is_zero_number.ensures _) w.if-is_zero_number-2.true) ]) (build (numeral c.zero.ensures))

pub returns-then-is_one_number : goal.returns-then-is_one_number
unfolding product_plan
returns-then-is_one_number c = λ n h x y. past _ (neither (so (c.is_zero_number.ensures _) c.if-is_zero_number.false) (so (c.is_zero_number-else-is_zero_number.ensures _) c.if-is_zero_number-2.false)) (hit _ (so (c.is_one_number.ensures _) c.if-is_one_number.true) (use_it y.at))

pub returns-then-is_one_number-2 : goal.returns-then-is_one_number-2
unfolding product_plan
returns-then-is_one_number-2 c = λ n h x y. past _ (neither (so (c.is_zero_number.ensures _) c.if-is_zero_number.false) (so (c.is_zero_number-else-is_zero_number.ensures _) c.if-is_zero_number-2.false)) (past _ (so (c.is_one_number.ensures _) c.if-is_one_number.false) (hit _ (so (c.is_one_number-2.ensures _) c.if-is_one_number-2.true) (use_it x.at)))

pub returns-in-Some : goal.returns-in-Some
unfolding product_plan
returns-in-Some c = λ n h x y. let p = c.in-Some.ensures _ in past _ (neither (so (c.is_zero_number.ensures _) c.if-is_zero_number.false) (so (c.is_zero_number-else-is_zero_number.ensures _) c.if-is_zero_number-2.false)) (past _ (so (c.is_one_number.ensures _) c.if-is_one_number.false) (past _ (so (c.is_one_number-2.ensures _) c.if-is_one_number-2.false) (hit _ p.0 (fold p.1.0 p.1.1))))

pub returns-in-Some-choose_signed_product : goal.returns-in-Some-choose_signed_product
unfolding product_plan
returns-in-Some-choose_signed_product c = λ n h x y. let p = c.in-Some-choose_signed_product.ensures _ n x y in past _ (neither (so (c.is_zero_number.ensures _) c.if-is_zero_number.false) (so (c.is_zero_number-else-is_zero_number.ensures _) c.if-is_zero_number-2.false)) (past _ (so (c.is_one_number.ensures _) c.if-is_one_number.false) (past _ (so (c.is_one_number-2.ensures _) c.if-is_one_number-2.false) (past _ (c.in_default.ensures _) (hit _ p.0 (p.1)))))

pub returns-in-Some-choose_grouped : goal.returns-in-Some-choose_grouped
unfolding product_plan
returns-in-Some-choose_grouped c = λ n h x y. let p = c.in-Some-choose_grouped.ensures _ n x y in past _ (neither (so (c.is_zero_number.ensures _) c.if-is_zero_number.false) (so (c.is_zero_number-else-is_zero_number.ensures _) c.if-is_zero_number-2.false)) (past _ (so (c.is_one_number.ensures _) c.if-is_one_number.false) (past _ (so (c.is_one_number-2.ensures _) c.if-is_one_number-2.false) (past _ (c.in_default.ensures _) (past _ (c.in_default-choose_signed_product.ensures _ n x y) (hit _ p.0 (p.1))))))

pub returns : goal.returns
unfolding product_plan
returns c = λ n h x y. past _ (neither (so (c.is_zero_number.ensures _) c.if-is_zero_number.false) (so (c.is_zero_number-else-is_zero_number.ensures _) c.if-is_zero_number-2.false)) (past _ (so (c.is_one_number.ensures _) c.if-is_one_number.false) (past _ (so (c.is_one_number-2.ensures _) c.if-is_one_number-2.false) (past _ (c.in_default.ensures _) (past _ (c.in_default-choose_signed_product.ensures _ n x y) (past _ (c.in_default-choose_grouped.ensures _ n x y) (c.choose_distributed.ensures n h x y))))))
