-- `search` meets its contract. The invariant is `Halving`; the measure is what is left to be halved. Assumes nothing.
use mathlib.Core.Path.{sym, ◌∙◌}
use Prim.Native.Nat.{◌+◌, ◌-◌, ◌/◌}
use native.Mathlib.Omega.{arith}
use Rattle.memory.specs.Keys.{key_at}
use Rattle.memory.proofs.Seeking.{place_small, first_key, below_first, halving_begins, halving_hits, halving_lifts, halving_lowers, halving_ends, below_key}
use Rattle.memory.proofs.halving.search.Goals as goal

pub returns-then-key-lowest-clause-first : goal.returns-then-key-lowest-clause-first
returns-then-key-lowest-clause-first c = λ l a. below_first (key_at c.args.table.now c.args.from c.args.step) c.args.count c.args.key (omega (arith, c.if-key-lowest.true, c.read-lowest.ensures, first_key c.args.table.now c.args.from c.args.step)) a

pub overflow_mul-step : goal.overflow_mul-step
overflow_mul-step c = let l = place_small c.args.step (c.args.key - c.read-lowest.result) c.requires.1 (omega (arith, c.if-distance-count.true, c.if-count-gt-MOST.false)) in omega (arith, l)

pub overflow_add-step : goal.overflow_add-step
overflow_add-step c = let l = place_small c.args.step (c.args.key - c.read-lowest.result) c.requires.1 (omega (arith, c.if-distance-count.true, c.if-count-gt-MOST.false)) in omega (arith, l, c.requires.0)

pub returns-then-read-key : goal.returns-then-read-key
returns-then-read-key c = record {
  within = (c.if-distance-count.true, omega (arith, c.if-distance-count.true, c.if-count-gt-MOST.false));
  first = λ l a. (c.if-distance-count.true, halving_hits (halving_begins (key_at c.args.table.now c.args.from c.args.step) c.args.count c.args.key c.if-count-gt-MOST.false) (c.args.key - c.read-lowest.result) c.if-distance-count.true (sym c.read.ensures ∙ c.if-read-key.true) a);
}

pub loop-low-init : goal.loop-low-init
loop-low-init c = halving_begins _ _ _ c.if-count-gt-MOST.false

pub overflow_sub-middle : goal.overflow_sub-middle
overflow_sub-middle c = omega (arith, c.loop-low.invariant.order)

pub overflow_add-middle : goal.overflow_add-middle
overflow_add-middle c = omega (arith, c.loop-low.invariant.few, c.loop-low.invariant.inside, c.loop-low.invariant.order)

pub overflow_mul-step-in-loop-low : goal.overflow_mul-step-in-loop-low
overflow_mul-step-in-loop-low c = let l = place_small c.args.step (c.loop-low.low + (c.loop-low.high - c.loop-low.low) / 2) c.requires.1 (omega (arith, c.loop-low.invariant.few, c.loop-low.invariant.inside)) in omega (arith, l)

pub overflow_add-step-in-loop-low : goal.overflow_add-step-in-loop-low
overflow_add-step-in-loop-low c = let l = place_small c.args.step (c.loop-low.low + (c.loop-low.high - c.loop-low.low) / 2) c.requires.1 (omega (arith, c.loop-low.invariant.few, c.loop-low.invariant.inside)) in omega (arith, l, c.requires.0)

pub returns-then-stands-key : goal.returns-then-stands-key
returns-then-stands-key c = record {
  within = (omega (arith, c.loop-low.invariant.inside), omega (arith, c.loop-low.invariant.few, c.loop-low.invariant.inside));
  first = λ l a. (omega (arith, c.loop-low.invariant.inside), halving_hits c.loop-low.invariant _ (omega arith) (sym c.read-stands.ensures ∙ c.if-stands-key.true) a);
}

pub overflow_add-low : goal.overflow_add-low
overflow_add-low c = omega (arith, c.loop-low.invariant.few, c.loop-low.invariant.inside)

pub loop-low-smaller-then-stands-key-2 : goal.loop-low-smaller-then-stands-key-2
loop-low-smaller-then-stands-key-2 c = omega arith

pub loop-low-preserved-then-stands-key-2 : goal.loop-low-preserved-then-stands-key-2
loop-low-preserved-then-stands-key-2 c = halving_lifts c.loop-low.invariant _ (omega arith) (rw c.read-stands.ensures at c.if-stands-key-2.true)

pub loop-low-smaller : goal.loop-low-smaller
loop-low-smaller c = omega arith

pub loop-low-preserved : goal.loop-low-preserved
loop-low-preserved c = halving_lowers c.loop-low.invariant _ (omega arith) (omega arith) (below_key c.read-stands.ensures c.if-stands-key.false c.if-stands-key-2.false)

pub returns-clause-first : goal.returns-clause-first
returns-clause-first c = λ l a. halving_ends c.loop-low.invariant c.loop-low-test.false a
