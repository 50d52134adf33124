-- `substitute_as` meets its contract. Assumes nothing.
use Rattle.calls.proofs.Framing.{ends, zeroed_alike}
use Rattle.calls.proofs.substitute_as.Goals as goal

pub returns : goal.returns
returns c = ends _ _ c.substitute_texts-answer.ensures c.clear_work.ensures (zeroed_alike _ _ c.substitute_texts-answer.auto.store c.substitute_texts-answer.auto.table)
