-- `enter` meets its contract. Assumes nothing.
use mathlib.Core.Path.{refl}
use native.Mathlib.Omega.{arith}
use Rattle.writing.proofs.order.enter.Goals as goal

pub returns-then-count-ge-MOST : goal.returns-then-count-ge-MOST
returns-then-count-ge-MOST c = λ p. absurd (omega (arith, p, c.if-count-ge-MOST.true))

pub returns : goal.returns
returns c = λ p. record { next = refl; marked = c.put_link.ensures; put = c.put.ensures }
