-- `evaluate` meets its contract: the node has become its value, or the node that lacks is asked again. Assumes nothing.
use native.Mathlib.Omega.{arith}
use Rattle.evaluation.proofs.Settled.{settled_value, settled_lack}
use Rattle.evaluation.proofs.evaluate.Goals as goal

pub returns-then-below-node : goal.returns-then-below-node
returns-then-below-node c = λ n o l b h. absurd (omega (arith, b, c.if-below-node.true))

pub returns-in-Ok : goal.returns-in-Ok
returns-in-Ok c = λ n o l b h. settled_value _ (c.settle.ensures n o l b h) l c.in-Ok.is c.number_at.ensures

pub returns-in-Err : goal.returns-in-Err
returns-in-Err c = λ n o l b h. let s = c.settle.ensures n o l b h in let k = s.lack _ c.in-Err.is in settled_lack _ s l c.in-Err.is (c.value_of-asked.ensures n s.settling.ordered k.inside k.ready h).0
