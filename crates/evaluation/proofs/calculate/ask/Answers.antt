-- `ask` meets its contract: what the look-up finds. Assumes nothing.
use mathlib.Core.Path.{sym, ap, ◌∙◌}
use Rattle.sheet.specs.Table.{rows_of, seen_found_row}
use Rattle.evaluation.proofs.Valued.{row_answers, nothing_answers}
use Rattle.evaluation.proofs.calculate.ask.Goals as goal

pub returns-in-Some : goal.returns-in-Some
returns-in-Some c = λ h. row_answers (rows_of c.args.table.now c.args.counts) _ _ _ (sym (c.function_row-found.ensures.0 h) ∙ ap seen_found_row c.in-Some.is)

pub returns-in-None : goal.returns-in-None
returns-in-None c = λ h. nothing_answers (rows_of c.args.table.now c.args.counts) _ _ _ _ c.unused.ensures (sym (c.function_row-found.ensures.0 h) ∙ ap seen_found_row c.in-None.is)
