-- `read_byte` meets its contract. Assumes nothing.
use Rattle.console.proofs.TapeLines.{byte_end, byte_none, byte_cut, byte_half, byte_alone, byte_ended}
use Rattle.console.proofs.tape.read_byte.Goals as goal

pub returns-in_err-a : goal.returns-in_err-a
returns-in_err-a c = rw c.from_residual.ensures (byte_end _ c.args.stop c.in_err-a.ensures.cases)

pub returns-then-high-gt15 : goal.returns-then-high-gt15
returns-then-high-gt15 c = byte_none c.in_ok-a.ensures.cases c.args.stop c.digit-high.ensures c.if-high-gt15.true

pub returns-in_err-b : goal.returns-in_err-b
returns-in_err-b c = rw c.from_residual-in_err-b.ensures (byte_cut c.in_ok-a.ensures.cases c.args.stop c.digit-high.ensures c.if-high-gt15.false c.in_err-b.ensures.cases)

pub returns-then-low-gt15 : goal.returns-then-low-gt15
returns-then-low-gt15 c = byte_half c.in_ok-a.ensures.cases c.args.stop c.digit-high.ensures c.if-high-gt15.false c.in_ok-b.ensures.cases c.digit-low.ensures c.if-low-gt15.true

pub returns-then-stop-eq0 : goal.returns-then-stop-eq0
returns-then-stop-eq0 c = byte_alone c.in_ok-a.ensures.cases c.args.stop c.digit-high.ensures c.if-high-gt15.false c.in_ok-b.ensures.cases c.digit-low.ensures c.if-low-gt15.false c.if-stop-eq0.true

pub returns : goal.returns
returns c = byte_ended c.in_ok-a.ensures.cases c.args.stop c.digit-high.ensures c.if-high-gt15.false c.in_ok-b.ensures.cases c.digit-low.ensures c.if-low-gt15.false c.if-stop-eq0.false c.end_field.ensures
