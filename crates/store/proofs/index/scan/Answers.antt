-- `scan` meets its contract. The invariant: all nodes from `node` on have been looked at. Assumes nothing.
use mathlib.Core.Path.{refl}
use native.Mathlib.Omega.{arith}
use Rattle.store.proofs.Walks.{found, past_kin, past_stranger, ends}
use Rattle.store.proofs.index.scan.Goals as goal

pub loop-node-init : goal.loop-node-init
loop-node-init c = λ k p. p

pub returns-in-Own : goal.returns-in-Own
returns-in-Own c = λ k p. let q = c.loop-node.invariant k p in (omega (arith, q.within, c.loop-node-test.true), found (c.loop-node.invariant k p) _ refl (λ z. omega (arith, z, c.loop-node-test.true)) _ c.in-Own.is (c.meet_far.ensures k))

pub loop-node-preserved-in-Kin : goal.loop-node-preserved-in-Kin
loop-node-preserved-in-Kin c = λ k p. past_kin (c.loop-node.invariant k p) _ refl (λ z. omega (arith, z, c.loop-node-test.true)) c.in-Kin.is (c.meet_far.ensures k) c.class_at-kin.ensures

pub loop-node-preserved : goal.loop-node-preserved
loop-node-preserved c = λ k p. past_stranger (c.loop-node.invariant k p) _ refl (λ z. omega (arith, z, c.loop-node-test.true)) k c.in-Stranger.is (c.meet_far.ensures k) refl

pub returns : goal.returns
returns c = λ k p. ends (c.loop-node.invariant k p) (omega (arith, c.loop-node-test.false))
