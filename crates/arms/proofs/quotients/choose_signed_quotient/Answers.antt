-- `choose_signed_quotient` meets its contract. Assumes nothing.
use Rattle.arms.specs.Tables.{signed_quotient}
use Rattle.arms.proofs.Looking.{so, first_of_both, either_first, either_second, finds_on}
use Rattle.arms.proofs.Choosing.{hit, past, numeral, build}
use Rattle.arms.proofs.quotients.choose_signed_quotient.Goals as goal

pub returns-in-Some : goal.returns-in-Some
unfolding signed_quotient
returns-in-Some c = λ n h x y. let p = c.in-Some.ensures _ n x.within y.within in (either_first _ (first_of_both _ _ p.0), hit _ p.0 p.1)

pub returns-then-negates : goal.returns-then-negates
unfolding signed_quotient
returns-then-negates c = λ n h x y. let e = so (c.negates.ensures n _ h y.within x.at) c.if-negates.true in (either_second _ (first_of_both _ _ e), past _ (c.in_default.ensures _ n x.within y.within) (hit _ e (build (numeral c.minus_one.ensures))))

pub returns-then-negates-2 : goal.returns-then-negates-2
unfolding signed_quotient
returns-then-negates-2 c = λ n h x y. let e = so (c.negates-2.ensures n _ h x.within y.at) c.if-negates-2.true in (either_first _ (first_of_both _ _ e), past _ (c.in_default.ensures _ n x.within y.within) (past _ (so (c.negates.ensures n _ h y.within x.at) c.if-negates.false) (hit _ e (build (numeral c.minus_one-then-negates-2.ensures)))))

pub returns : goal.returns
unfolding signed_quotient
returns c = λ n h x y. finds_on _ _ (λ arm k. past _ (c.in_default.ensures _ n x.within y.within) (past _ (so (c.negates.ensures n _ h y.within x.at) c.if-negates.false) (past _ (so (c.negates-2.ensures n _ h x.within y.at) c.if-negates-2.false) k))) (c.choose_moved.ensures _ n x y)
