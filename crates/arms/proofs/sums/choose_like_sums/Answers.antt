-- `choose_like_sums` meets its contract. Assumes nothing.
use Rattle.arms.proofs.Looking.{so, compared, both_true, not_first, not_second}
use Rattle.arms.proofs.Choosing.{double}
use Rattle.arms.proofs.sums.choose_like_sums.Goals as goal

pub returns-in_err-x : goal.returns-in_err-x
returns-in_err-x c = λ n h w v. rw c.from_residual.ensures (not_first _ (not_first _ (c.in_err-x.ensures _ n w)))

pub returns-in_err-y : goal.returns-in_err-y
returns-in_err-y c = λ n h w v. rw c.from_residual-in_err-y.ensures (not_first _ (not_second _ (c.in_err-y.ensures _ n v)))

pub returns-then-not-equal_at : goal.returns-then-not-equal_at
returns-then-not-equal_at c = λ n h w v. let p = c.in_ok-x.ensures _ n w in let q = c.in_ok-y.ensures _ n v in not_second _ (so (compared c.equal_at.ensures h p.1.0 q.1.0) c.if-not-equal_at.true)

pub returns : goal.returns
returns c = λ n h w v. let p = c.in_ok-x.ensures _ n w in let q = c.in_ok-y.ensures _ n v in (both_true (both_true p.0 q.0) (so (compared c.equal_at.ensures h p.1.0 q.1.0) c.if-not-equal_at.false), double p.1.0 p.1.1 q.1.1)
