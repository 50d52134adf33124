-- `read_decimal` meets its contract. The invariant is `Going`; the measure is what is left of the text. Assumes nothing.
use Rattle.std.proofs.Common.{◌-◌, length, drop, take_all, refl, arith, length-drop}
use Rattle.text.proofs.Running.{begins, in_text, goes_on, over, no_digit_lem, zeros, zero_alone, no_zero}
use Rattle.text.proofs.reading.read_decimal.Goals as goal
use Rattle.text.proofs.reading.read_decimal.Goals.{then-first-eq0+else-i-gt1, else-first-eq0}

pub loop-d-init : goal.loop-d-init
loop-d-init c = begins _ _ _ (rw (c.decimal_digit-first.ensures, c.byte_at.ensures) refl)

pub overflow_mul-v : goal.overflow_mul-v
overflow_mul-v c = omega arith

pub overflow_add-v : goal.overflow_add-v
overflow_add-v c = omega arith

pub returns-then-v-limit : goal.returns-then-v-limit
returns-then-v-limit c = over c.loop-d.invariant c.loop-d-test.true c.if-v-limit.true

pub overflow_add-i : goal.overflow_add-i
overflow_add-i c = omega (arith, in_text c.loop-d.invariant c.loop-d-test.true)

pub loop-d-smaller : goal.loop-d-smaller
loop-d-smaller c = omega (arith, in_text c.loop-d.invariant c.loop-d-test.true)

pub loop-d-preserved : goal.loop-d-preserved
loop-d-preserved c = goes_on c.loop-d.invariant _ c.loop-d-test.true c.if-v-limit.false (rw (c.decimal_digit-d.ensures, c.byte_at-in-loop-d.ensures) refl)

pub returns-then-i-eq0 : goal.returns-then-i-eq0
returns-then-i-eq0 c = no_digit_lem c.loop-d.invariant c.loop-d-test.false c.if-i-eq0.true

pub returns-then-i-gt1 : goal.returns-then-i-gt1
returns-then-i-gt1 c = zeros c.loop-d.invariant c.loop-d-test.false (rw (c.decimal_digit-first.ensures, c.byte_at.ensures) refl) c.if-i-eq0.false c.if-first-eq0.true c.if-i-gt1.true

pub returns : goal.returns
returns c = rw (take_all (length c.args.s.now - c.loop-d.i) (drop c.loop-d.i c.args.s.now) (omega (arith, length-drop c.loop-d.i c.args.s.now))) elim c.if-first-eq0.branch [
  | then-first-eq0+else-i-gt1 w ↦ zero_alone c.loop-d.invariant c.loop-d-test.false (rw (c.decimal_digit-first.ensures, c.byte_at.ensures) refl) c.if-i-eq0.false w.if-first-eq0.true w.if-i-gt1.false
  | else-first-eq0 w ↦ no_zero c.loop-d.invariant c.loop-d-test.false (rw (c.decimal_digit-first.ensures, c.byte_at.ensures) refl) c.if-i-eq0.false w.if-first-eq0.false
]
