-- `simplify_as` meets its contract. Assumes nothing.
use Rattle.calls.proofs.Framing.{ends, zeroed_alike, marks_written}
use Rattle.calls.proofs.simplify_as.Goals as goal

pub returns : goal.returns
returns c = ends _ _ (marks_written _ c.simplify_texts-answer.ensures c.show_marks.ensures) c.clear_work.ensures (zeroed_alike _ _ c.simplify_texts-answer.auto.store c.simplify_texts-answer.auto.table)
