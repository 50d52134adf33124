-- `put_fields` meets its contract: the three words one after the other. Assumes nothing.
use Rattle.timed.proofs.inputs.put_fields.Goals as goal

pub returns : goal.returns
returns c = rw (← c.put.ensures, ← c.put-2.ensures) c.put-3.ensures
