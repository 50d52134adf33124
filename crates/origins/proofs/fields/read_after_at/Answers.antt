-- `read_after_at` meets its contract. Assumes nothing.
use Rattle.std.proofs.Common.{sym, arith}
use Rattle.text.proofs.Fields.{told, told_bad, told_low}
use Rattle.origins.proofs.Reading.{after_nothing, after_minus, after_no_number, after_some}
use Rattle.origins.proofs.fields.read_after_at.Goals as goal

pub returns-in_err-b : goal.returns-in_err-b
returns-in_err-b c = rw c.from_residual.ensures (sym (after_nothing _ c.in_err-b.ensures.cases))

pub returns-then-b-eq45 : goal.returns-then-b-eq45
returns-then-b-eq45 c = sym (after_minus c.in_ok-b.ensures.cases c.if-b-eq45.true)

pub returns-in_err-line : goal.returns-in_err-line
returns-in_err-line c = rw c.from_residual-in_err-line.ensures (sym (after_no_number c.in_ok-b.ensures.cases c.if-b-eq45.false (told_bad c.read_decimal.ensures c.in_err-line.was)))

pub overflow_add-result : goal.overflow_add-result
overflow_add-result c = let l = told_low _ _ c.read_decimal.ensures c.in_ok-line.was in omega (arith, l)

pub returns : goal.returns
returns c = sym (after_some c.in_ok-b.ensures.cases c.if-b-eq45.false (told c.read_decimal.ensures c.in_ok-line.was))
