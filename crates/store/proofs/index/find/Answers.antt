-- `find` meets its contract. The invariant: all nodes from `at` on have been looked at, and `at` is in the chain. Assumes nothing.
use mathlib.Core.Path.{refl, ◌∙◌}
use native.Mathlib.Omega.{arith}
use Rattle.store.specs.Memory.{next_on}
use Rattle.store.proofs.Walks.{begins, goes_on, found, past_kin, past_stranger, ends}
use Rattle.store.proofs.index.find.Goals as goal
use Rattle.store.proofs.index.find.Goals.{in-Kin, in-Stranger}

pub loop-at-init : goal.loop-at-init
loop-at-init c = λ h k e. begins h _ _ k _ refl _ e

pub returns-then-left-eq0 : goal.returns-then-left-eq0
returns-then-left-eq0 c = λ h k e. c.scan.ensures k (c.loop-at.invariant h k e).passed

pub returns-in-Own : goal.returns-in-Own
returns-in-Own c = λ h k e. let p = (c.loop-at.invariant h k e).passed in (omega (arith, p.within, c.loop-at-test.true), found p _ refl c.loop-at-test.true _ c.in-Own.is (c.meet.ensures k))

pub loop-at-smaller : goal.loop-at-smaller
loop-at-smaller c = omega (arith, c.min-at.ensures, c.loop-at-test.true)

pub loop-at-preserved : goal.loop-at-preserved
unfolding next_on
loop-at-preserved c =
    λ h k e.
    let p = c.loop-at.invariant h k e in
    goes_on h _ _ k _ refl p _ refl c.loop-at-test.true
    (elim c.match-meet.branch [
      | in-Kin w ↦ past_kin p.passed _ refl c.loop-at-test.true w.in-Kin.is (c.meet.ensures k) (w.class-is ∙ w.class_at-class.ensures)
      | in-Stranger w ↦ past_stranger p.passed _ refl c.loop-at-test.true k w.in-Stranger.is (c.meet.ensures k) w.class-is
    ])
    (c.min-at.ensures ∙ rw (c.next_in.ensures, c.link_at.ensures) refl)

pub returns : goal.returns
returns c = λ h k e. ends (c.loop-at.invariant h k e).passed c.loop-at-test.false
