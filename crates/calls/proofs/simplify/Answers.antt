-- `simplify` meets its contract: the marks are left out. Assumes nothing.
use Rattle.calls.proofs.simplify.Goals as goal

pub returns : goal.returns
returns c = let p = c.simplify_marked.ensures in λ i. ((p i).0.0, (p i).1)
