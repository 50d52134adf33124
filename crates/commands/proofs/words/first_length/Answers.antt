-- `first_length` meets its contract. Assumes nothing.
use mathlib.Core.Path.{◌≡◌}
use native.Mathlib.Omega.{arith}
use lib.ListN.{length}
use Rattle.commands.proofs.FirstWord.{begun, goes_on, ends, all}
use Rattle.commands.proofs.words.first_length.Goals as goal

pub loop-i-init : goal.loop-i-init
loop-i-init c = begun _

pub returns-then-b-eq-LF : goal.returns-then-b-eq-LF
returns-then-b-eq-LF c = record { words_value = (ends c.loop-i.invariant c.loop-i-test.true c.if-b-eq-LF.true).0; within = (ends c.loop-i.invariant c.loop-i-test.true c.if-b-eq-LF.true).1 }

pub loop-i-preserved : goal.loop-i-preserved
loop-i-preserved c = goes_on c.loop-i.invariant c.loop-i-test.true c.if-b-eq-LF.false

pub returns : goal.returns
returns c =
    let z : c.loop-i.i ≡ length c.args.words.now = omega (arith, c.loop-i.invariant.inside, c.loop-i-test.false) in
    let h = rw z at (all c.loop-i.invariant c.loop-i-test.false) in
    record { words_value = h.0; within = h.1 }
