-- `to_real` meets its contract. Assumes nothing.
use Rattle.calls.proofs.Framing.{ends, zeroed_alike}
use Rattle.calls.proofs.to_real.Goals as goal

pub returns : goal.returns
returns c = ends _ _ c.real_of_text-answer.ensures c.clear_work.ensures (zeroed_alike _ _ c.real_of_text-answer.auto.store c.real_of_text-answer.auto.table)
