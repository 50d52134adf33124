-- `refuse` meets its contract: the number, and what NEED carries. Assumes nothing.
use Rattle.store.proofs.Asking.{refuses_plain, refuses_need}
use Rattle.store.proofs.desk.refuse.Goals as goal

pub returns-in-Need : goal.returns-in-Need
returns-in-Need c = rw c.in-Need.is (refuses_need _ (rw c.in-Need.is at c.number.ensures) c.ask.ensures)

pub returns-in_default : goal.returns-in_default
returns-in_default c = refuses_plain _ _ c.number.ensures c.in_default.not-Need
