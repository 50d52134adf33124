-- `answer_of` meets its contract. Assumes nothing.
use Rattle.calls.specs.Calls.{evaluated}
use Rattle.calls.proofs.answer_of.Goals as goal

pub returns-in-Value : goal.returns-in-Value
unfolding evaluated
returns-in-Value c = rw c.in-Value.is

pub returns-in-Incomplete : goal.returns-in-Incomplete
unfolding evaluated
returns-in-Incomplete c = rw c.in-Incomplete.is

pub returns-in-Need : goal.returns-in-Need
unfolding evaluated
returns-in-Need c = rw c.in-Need.is
