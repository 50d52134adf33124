-- `line_start` meets its contract. The invariant is `At`. Assumes nothing.
use mathlib.Core.Path.{refl, ap, ◌∙◌}
use native.Mathlib.Omega.{arith}
use lib.ListN.{drop}
use Rattle.faults.proofs.Telling.{line_ended, line_other, line_passed, line_found}
use Rattle.faults.proofs.line_start.Goals as goal
use Rattle.faults.proofs.line_start.Goals.{then-byte-eq-LF, else-byte-eq-LF}

pub loop-i-init : goal.loop-i-init
loop-i-init c = record { inside = omega arith; rest = refl }

pub returns-then-left-eq0 : goal.returns-then-left-eq0
returns-then-left-eq0 c = (c.loop-i.invariant.inside, line_found c.loop-i.invariant (omega arith))

pub loop-i-preserved : goal.loop-i-preserved
loop-i-preserved c = elim c.if-byte-eq-LF.branch [
  | then-byte-eq-LF w ↦ rw w.left-is (line_passed c.loop-i.invariant (omega arith) c.loop-i-test.true w.if-byte-eq-LF.true)
  | else-byte-eq-LF w ↦ rw w.left-is (line_other c.loop-i.invariant (omega arith) c.loop-i-test.true w.if-byte-eq-LF.false)
]

pub returns : goal.returns
returns c = (omega arith, ap (λ i. drop i c.args.text.now) (omega (arith, c.loop-i.invariant.inside)) ∙ line_ended c.loop-i.invariant c.loop-i-test.false)
