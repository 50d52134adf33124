-- `missing_in_job` meets its contract. Assumes nothing.
use Rattle.calls.proofs.Framing.{ends, zeroed_alike}
use Rattle.lacks.proofs.missing_in_job.Goals as goal

pub returns : goal.returns
returns c = ends _ _ c.missing_in_texts-answer.ensures c.clear_work.ensures (zeroed_alike _ _ c.missing_in_texts-answer.auto.store c.missing_in_texts-answer.auto.table)
