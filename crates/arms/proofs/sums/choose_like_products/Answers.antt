-- `choose_like_products` meets its contract. Assumes nothing.
use Rattle.arms.proofs.Looking.{so, compared, both_true, not_first, not_second}
use Rattle.arms.proofs.Choosing.{infix_of_lem, regroup}
use Rattle.arms.proofs.sums.choose_like_products.Goals as goal

pub returns-in_err-a : goal.returns-in_err-a
returns-in_err-a c = λ n h w v. rw c.from_residual.ensures (not_first _ (not_first _ (c.in_err-a.ensures _ n w)))

pub returns-in_err-b : goal.returns-in_err-b
returns-in_err-b c = λ n h w v. rw c.from_residual-in_err-b.ensures (not_first _ (not_second _ (c.in_err-b.ensures _ n v)))

pub returns-then-not-equal_at : goal.returns-then-not-equal_at
returns-then-not-equal_at c = λ n h w v. let p = c.in_ok-a.ensures _ n w in let q = c.in_ok-b.ensures _ n v in not_second _ (so (compared c.equal_at.ensures h p.1.1 q.1.1) c.if-not-equal_at.true)

pub returns : goal.returns
returns c = λ n h w v. let p = c.in_ok-a.ensures _ n w in let q = c.in_ok-b.ensures _ n v in (both_true (both_true p.0 q.0) (so (compared c.equal_at.ensures h p.1.1 q.1.1) c.if-not-equal_at.false), regroup (infix_of_lem p.1.0 q.1.0) p.1.1)
