-- `substitute_variables` meets its contract: at first nothing is known. Assumes nothing.
use native.Mathlib.Omega.{arith}
use Rattle.substitution.proofs.Settling.{knows_nothing}
use Rattle.substitution.proofs.substitute_variables.Goals as goal

pub returns : goal.returns
returns c = λ few li o. (c.substitute_node.ensures _ _ (knows_nothing few li c.standing-nodes.ensures c.forget.ensures) (omega (arith, o, c.standing-nodes.ensures)) (omega (arith, o, c.standing-nodes.ensures))).built
