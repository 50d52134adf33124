-- `variable` meets its contract: what halving finds is the first. Assumes nothing.
use native.Mathlib.Omega.{arith}
use Rattle.sheet.proofs.Ordering.{plain_keys}
use Rattle.sheet.proofs.Finding.{variable_found, variable_missing}
use Rattle.sheet.proofs.variable.Goals as goal

pub returns-in_err-j : goal.returns-in_err-j
returns-in_err-j c = λ h. rw c.from_residual.ensures (variable_missing c.args.table.now c.args.counts h _ (c.in_err-j.ensures.first (omega (arith, h.variables)) (plain_keys c.args.table.now _ h.numbers)))

pub returns : goal.returns
returns c = λ h. rw c.number_at.ensures (variable_found c.args.table.now c.args.counts h _ _ (c.in_ok-j.ensures.first (omega (arith, h.variables)) (plain_keys c.args.table.now _ h.numbers)))
