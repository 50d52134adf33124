-- `read_hex` meets its contract. The invariant is `Hexing`. Assumes nothing.
use Rattle.std.proofs.Common.{◌%◌, arith}
use Rattle.std.proofs.lemmas.List.{get_or-take}
use Rattle.text.proofs.Running.{hex_short, hex_begins, hex_room, hex_goes_on, hex_done}
use Rattle.text.proofs.reading.read_hex.Goals as goal

pub returns-in_err-digits : goal.returns-in_err-digits
returns-in_err-digits c = rw c.from_residual.ensures (hex_short c.args.s.now c.in_err-digits.ensures.cases)

pub loop-b-init : goal.loop-b-init
loop-b-init c = hex_begins _

pub overflow_mul-v : goal.overflow_mul-v
overflow_mul-v c = let l = hex_room c.loop-b.v c.loop-b.b-index (c.hex_digit-d.result % 16) (omega (arith, c.in_ok-digits.ensures.cases.3)) c.loop-b.invariant.small (omega arith) in omega (arith, l)

pub overflow_add-v : goal.overflow_add-v
overflow_add-v c = let l = hex_room c.loop-b.v c.loop-b.b-index (c.hex_digit-d.result % 16) (omega (arith, c.in_ok-digits.ensures.cases.3)) c.loop-b.invariant.small (omega arith) in omega (arith, l)

pub loop-b-preserved : goal.loop-b-preserved
loop-b-preserved c =
    let d = c.in_ok-digits.ensures.cases in
    rw c.max-worst.ensures (hex_goes_on c.loop-b.invariant c.hex_digit-d.result (omega (arith, d.3)) d.0 (rw (d.1, get_or-take 16 c.args.s.now c.loop-b.b-index 0 (omega (arith, d.3))) at c.hex_digit-d.ensures))

pub returns-then-worst-gt15 : goal.returns-then-worst-gt15
returns-then-worst-gt15 c = c.loop-b.invariant.spoilt c.if-worst-gt15.true

pub returns : goal.returns
returns c = let d = c.in_ok-digits.ensures.cases in rw d.2 (hex_done c.loop-b.invariant (omega (arith, d.3)) c.if-worst-gt15.false)
