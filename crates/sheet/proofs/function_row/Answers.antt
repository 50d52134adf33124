-- `function_row` meets its contract: the first row that matches as words is the first that matches. Assumes nothing.
use Rattle.sheet.proofs.Finding.{row_found, row_missing}
use Rattle.sheet.proofs.function_row.Goals as goal

pub returns-in_err-j : goal.returns-in_err-j
returns-in_err-j c = rw c.from_residual.ensures ((λ h. row_missing c.args.table.now c.args.counts h c.args.operation c.args.x c.args.y (rw (c.from.ensures, c.words_of.ensures, c.words_of-2.ensures) at (c.in_err-j.ensures.first h.functions h.index))), tt)

pub returns : goal.returns
returns c = (λ h. rw c.number_at.ensures (row_found c.args.table.now c.args.counts h c.args.operation c.args.x c.args.y _ (rw (c.from.ensures, c.words_of.ensures, c.words_of-2.ensures) at (c.in_ok-j.ensures.first h.functions h.index))), c.in_ok-j.ensures.within.1)
