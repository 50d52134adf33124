-- `one_more` meets its contract. Assumes nothing.
use mathlib.Core.Path.{◌≡◌, ◌∙◌}
use mathlib.Core.Bool.{cond}
use Prim.Native.Nat.{ℕ, suc, ◌+◌, ◌≤◌, min}
use native.Mathlib.Omega.{arith}
use native.Mathlib.Decide.{dec_lt}
use lib.Dec.{ltb}
use borrow.Author.Tests.{lt-ltb, le-ltb}
use Rattle.tasks.specs.Deciding.{one_more}
use Rattle.tasks.proofs.one_more.Goals as goal

-- one more, but no more than the largest
up_to : (n most : ℕ) → n ≤ most → min (n + 1) most ≡ cond (ltb n most) (suc n) n
up_to n most l = elim (dec_lt n most) [
  | yes h ↦ rw (lt-ltb n most h) (omega (arith, h))
  | no h ↦ rw (le-ltb n most (omega (arith, h))) (omega (arith, h, l))
]

pub returns : goal.returns
unfolding one_more
returns c = c.saturating_add.ensures ∙ up_to _ _ (omega (arith, c.ranges.calls.fits))
