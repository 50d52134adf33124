-- `timed_add` meets its contract: the node by its fields, and the answer with the desk as it is then. Assumes nothing.
use Rattle.timed.proofs.nodes.timed_add.Goals as goal

pub returns : goal.returns
returns c = record { answer = _; number = c.packed_built.ensures; allowed = rw c.expression_of-e.ensures at c.add-built.ensures }
