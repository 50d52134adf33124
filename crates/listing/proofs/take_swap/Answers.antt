-- `take_swap` meets its contract: each return is a law of proofs/Taking. Assumes nothing.
use native.Mathlib.Omega.{arith}
use Rattle.listing.proofs.Taking.{swap_long, swap_bad, swap_unasked, swap_low, swap_next}
use Rattle.listing.proofs.take_swap.Goals as goal

pub overflow_add-here : goal.overflow_add-here
overflow_add-here c = omega (arith, c.requires.lines, c.requires.swaps)

pub returns-then-swaps-ge-MOST_SWAPS : goal.returns-then-swaps-ge-MOST_SWAPS
returns-then-swaps-ge-MOST_SWAPS c = λ l li. swap_long _ c.requires li _ c.if-swaps-ge-MOST_SWAPS.true

pub read_swap-requires : goal.read_swap-requires
read_swap-requires c = c.requires.lines

pub returns-in_default : goal.returns-in_default
returns-in_default c = λ l li. swap_bad _ c.requires li _ c.if-swaps-ge-MOST_SWAPS.false c.read_swap.ensures c.in_default.is

pub returns-then-not-substituting : goal.returns-then-not-substituting
returns-then-not-substituting c = λ l li. swap_unasked _ c.requires li _ c.if-swaps-ge-MOST_SWAPS.false c.read_swap.ensures c.in-Some.is c.if-not-substituting.true

pub is_above-requires : goal.is_above-requires
is_above-requires c = c.requires.swaps

pub returns-then-not-is_above : goal.returns-then-not-is_above
returns-then-not-is_above c = λ l li. swap_low _ c.requires li _ c.if-swaps-ge-MOST_SWAPS.false c.read_swap.ensures c.in-Some.is c.if-not-substituting.false c.is_above.ensures c.if-not-is_above.true

pub overflow_mul-swaps : goal.overflow_mul-swaps
overflow_mul-swaps c = omega (arith, c.requires.swaps)

pub overflow_add-swaps : goal.overflow_add-swaps
overflow_add-swaps c = omega (arith, c.requires.swaps)

pub overflow_mul-swaps-2 : goal.overflow_mul-swaps-2
overflow_mul-swaps-2 c = omega (arith, c.requires.swaps)

pub overflow_add-swaps-2 : goal.overflow_add-swaps-2
overflow_add-swaps-2 c = omega (arith, c.requires.swaps)

pub overflow_add-swaps-3 : goal.overflow_add-swaps-3
overflow_add-swaps-3 c = omega (arith, c.requires.swaps)

pub overflow_add-more : goal.overflow_add-more
overflow_add-more c = omega (arith, c.requires.swaps)

pub returns : goal.returns
returns c = λ l li. swap_next _ c.requires li _ c.if-swaps-ge-MOST_SWAPS.false c.read_swap.ensures c.in-Some.is c.if-not-substituting.false c.is_above.ensures c.if-not-is_above.false c.read-node.ensures c.put.ensures c.put-2.ensures
