-- `packed_built` meets its contract: a node or a refusal. Assumes nothing.
use mathlib.Core.Path.{refl}
use Rattle.timed.specs.Packed.{built_of}
use Rattle.timed.proofs.packing.packed_built.Goals as goal

pub returns-in-Ok : goal.returns-in-Ok
unfolding built_of
returns-in-Ok c = rw (c.in-Ok.is, c.packed_node.ensures, c.standing.ensures, c.calls_made.ensures) refl

pub returns-in-Err : goal.returns-in-Err
unfolding built_of
returns-in-Err c = rw (c.in-Err.is, c.refused.ensures, c.refusal_of.ensures) refl
