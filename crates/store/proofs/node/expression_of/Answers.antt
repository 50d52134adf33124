-- `expression_of` meets its contract: by the kind. Assumes nothing.
use mathlib.Core.Path.{refl}
use Rattle.store.specs.Nodes.{expression_as, expression_of}
use Rattle.store.proofs.Coding.{as_infix}
use Rattle.store.proofs.node.expression_of.Goals as goal

pub returns-in-1 : goal.returns-in-1
unfolding expression_of expression_as
returns-in-1 c = rw (c.in-1.is, ← c.from_bits.ensures, ← c.from_bits-in-1.ensures) refl

pub returns-in-2 : goal.returns-in-2
unfolding expression_of expression_as
returns-in-2 c = rw c.in-2.is refl

pub returns-in-3 : goal.returns-in-3
unfolding expression_of expression_as
returns-in-3 c = rw c.in-3.is refl

pub returns-in-4 : goal.returns-in-4
unfolding expression_of expression_as
returns-in-4 c = rw c.in-4.is refl

pub returns-in-5 : goal.returns-in-5
unfolding expression_of expression_as
returns-in-5 c = rw (c.in-5.is, ← c.from_code.ensures) refl

pub returns-in-6 : goal.returns-in-6
unfolding expression_of expression_as
returns-in-6 c = rw (c.in-6.is, ← c.from_code-in-6.ensures) refl

pub returns-in_default : goal.returns-in_default
unfolding expression_of expression_as
returns-in_default c = rw c.from_code-in_default.ensures (as_infix _ _ _ _ c.in_default.in_default-own.rest)
