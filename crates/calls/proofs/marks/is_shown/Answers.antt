-- `is_shown` meets its contract. Assumes nothing.
use Rattle.calls.specs.Marks.{is_shown}
use Rattle.calls.proofs.marks.is_shown.Goals as goal

pub returns-in-Ok : goal.returns-in-Ok
unfolding is_shown
returns-in-Ok c = rw c.in-Ok.is

pub returns-in-Err : goal.returns-in-Err
unfolding is_shown
returns-in-Err c = rw c.in-Err.is c.is_lack.ensures
