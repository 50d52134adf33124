-- `swap_of` meets its contract: what halving finds is the first. Assumes nothing.
use native.Mathlib.Omega.{arith}
use Rattle.listing.proofs.Naming.{swap_found, swap_missing}
use Rattle.listing.proofs.swap_of.Goals as goal

pub returns-in_default : goal.returns-in_default
returns-in_default c = λ l few li. (swap_missing li _ (c.in_default.ensures.first (omega (arith, few)) li.ascends), tt)

pub returns : goal.returns
returns c = λ l few li. swap_found li _ (c.in-Some.ensures.first (omega (arith, few)) li.ascends) c.read.ensures
