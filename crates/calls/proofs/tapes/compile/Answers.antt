-- `compile` meets its contract. Assumes nothing.
use Rattle.calls.proofs.Framing.{ends, zeroed_alike}
use Rattle.calls.proofs.tapes.compile.Goals as goal

pub returns : goal.returns
returns c = ends _ _ c.compile_text-answer.ensures c.clear_work.ensures (zeroed_alike _ _ c.compile_text-answer.auto.store c.compile_text-answer.auto.table)
