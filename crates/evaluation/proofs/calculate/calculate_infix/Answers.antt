-- `calculate_infix` meets its contract: ^ is asked for, all else is arithmetic. Assumes nothing.
use Rattle.evaluation.specs.Evaluating.{calculate_infix}
use Rattle.evaluation.specs.Using.{used_by_infix}
use Rattle.sheet.specs.Table.{rows_of}
use Rattle.evaluation.proofs.Valued.{one_used, not_power, plain_answers}
use borrow.Enum.Refused.{opened}
use Rattle.evaluation.proofs.calculate.calculate_infix.Goals as goal

pub returns-in-Caret : goal.returns-in-Caret
unfolding calculate_infix used_by_infix
returns-in-Caret c = λ h. rw c.in-Caret.is (one_used _ (c.ask.ensures h))

pub returns : goal.returns
unfolding calculate_infix used_by_infix
returns c = λ h. plain_answers (rows_of c.args.table.now c.args.counts) _ _ _ _ c.unused.ensures (not_power _ (opened c.in_default.in_default-own.keys2)) (c.arithmetic.ensures (rows_of c.args.table.now c.args.counts))
