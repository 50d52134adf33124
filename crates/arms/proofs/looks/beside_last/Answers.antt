-- `beside_last` meets its contract. Assumes nothing.
use Rattle.arms.proofs.Looking.{so, compared, both_true, not_first, not_second}
use Rattle.arms.proofs.looks.beside_last.Goals as goal

pub returns-in_err-b : goal.returns-in_err-b
returns-in_err-b c = λ n t h w a. rw c.from_residual.ensures (not_first _ (c.in_err-b.ensures _ n w))

pub returns-then-equal_at : goal.returns-then-equal_at
returns-then-equal_at c = λ n t h w a. let p = c.in_ok-b.ensures _ n w in (both_true p.0 (so (compared c.equal_at.ensures h p.1.1 a) c.if-equal_at.true), p.1.0)

pub returns-else-equal_at : goal.returns-else-equal_at
returns-else-equal_at c = λ n t h w a. let p = c.in_ok-b.ensures _ n w in not_second _ (so (compared c.equal_at.ensures h p.1.1 a) c.if-equal_at.false)
