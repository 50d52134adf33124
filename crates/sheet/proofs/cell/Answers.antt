-- `cell` meets its contract: what halving finds is the first. Assumes nothing.
use native.Mathlib.Omega.{arith}
use Rattle.sheet.proofs.Finding.{cell_found, cell_missing}
use Rattle.sheet.proofs.cell.Goals as goal

pub returns-in_err-j : goal.returns-in_err-j
returns-in_err-j c = λ h. rw c.from_residual.ensures (cell_missing c.args.table.now c.args.counts h c.args.region c.args.index (omega arith) (c.in_err-j.ensures.first h.cells h.pairs))

pub returns : goal.returns
returns c = λ h. rw (c.from_bits.ensures, c.from_bits-2.ensures, c.read.ensures) (cell_found c.args.table.now c.args.counts h c.args.region c.args.index (omega arith) _ (c.in_ok-j.ensures.first h.cells h.pairs))
