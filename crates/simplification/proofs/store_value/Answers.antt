-- `store_value` meets its contract: what is built after the rows were noted. Assumes nothing.
use mathlib.Core.Path.{refl}
use native.Mathlib.Omega.{arith}
use Rattle.expression.specs.Nodes.{grown}
use Rattle.store.proofs.Building.{refuses_on, after_noting}
use Rattle.simplification.specs.Simplifying.{folded_to}
use Rattle.simplification.proofs.store_value.Goals as goal

pub returns-in-Value : goal.returns-in-Value
unfolding folded_to grown
returns-in-Value c h x = after_noting _ (folded_to c.args.asked.value) c.note.ensures h λ g. rw c.in-Value.is (c.add.ensures g tt)

pub returns-in-Incomplete : goal.returns-in-Incomplete
unfolding folded_to grown
returns-in-Incomplete c h x = after_noting _ (folded_to c.args.asked.value) c.note.ensures h λ g. rw c.in-Incomplete.is (refuses_on _ c.refuse.ensures (omega arith, omega arith) refl g)

pub returns-in-Need : goal.returns-in-Need
unfolding folded_to grown
returns-in-Need c h x = after_noting _ (folded_to c.args.asked.value) c.note.ensures h λ g. rw c.in-Need.is (refuses_on _ c.refuse-in-Need.ensures (omega arith, omega arith) refl g)
