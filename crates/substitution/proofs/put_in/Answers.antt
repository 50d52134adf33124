-- `put_in` meets its contract. Assumes nothing.
use Rattle.substitution.proofs.Replacing.{leaf_put, found_put}
use borrow.Enum.Refused.{opened}
use Rattle.substitution.proofs.put_in.Goals as goal

pub returns-in_default : goal.returns-in_default
returns-in_default c = λ l few li o q n. leaf_put l.rows o c.args.e q _ n (opened c.in_default.in_default-own.keys2)

pub returns : goal.returns
returns c = λ l few li o q n. found_put l.rows o c.args.e q _ c.in-Variable.is _ (c.swap_of.ensures l few li) c.unwrap_or.ensures
