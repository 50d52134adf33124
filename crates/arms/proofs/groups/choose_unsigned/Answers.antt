-- `choose_unsigned` meets its contract. Assumes nothing.
use Rattle.arms.proofs.Looking.{both_true, not_first, not_second}
use Rattle.arms.proofs.Choosing.{infix_of_lem, again}
use Rattle.arms.proofs.groups.choose_unsigned.Goals as goal

pub returns-in_err-a : goal.returns-in_err-a
returns-in_err-a c = λ m n w v. rw c.from_residual.ensures (not_first _ (c.in_err-a.ensures m n w))

pub returns-in_err-b : goal.returns-in_err-b
returns-in_err-b c = λ m n w v. rw c.from_residual-in_err-b.ensures (not_second _ (c.in_err-b.ensures m n v))

pub returns : goal.returns
returns c = λ m n w v. let p = c.in_ok-a.ensures m n w in let q = c.in_ok-b.ensures m n v in (both_true p.0 q.0, again (infix_of_lem p.1 q.1))
