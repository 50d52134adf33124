-- `end_line` meets its contract. Assumes nothing.
use Rattle.std.proofs.Common.{sym}
use Rattle.text.proofs.Fields.{told, told_bad, ends}
use Rattle.origins.proofs.Ending.{end_bad}
use Rattle.origins.proofs.Reading.{no_end, ends_at_lf, ends_nowhere, ends_in_no_field, ends_in_field}
use Rattle.origins.proofs.fields.end_line.Goals as goal

pub returns-in_err-v : goal.returns-in_err-v
returns-in_err-v c = rw (c.from_residual.ensures, c.in_err-v.was) (sym end_bad)

pub returns-in_err-stop : goal.returns-in_err-stop
returns-in_err-stop c = rw (c.from_residual-in_err-stop.ensures, c.in_ok-v.was) (sym (no_end _ _ c.in_err-stop.ensures.cases))

pub returns-then-stop-eq-LF : goal.returns-then-stop-eq-LF
returns-then-stop-eq-LF c = rw c.in_ok-v.was (sym (ends_at_lf c.in_ok-stop.ensures.cases _ c.if-stop-eq-LF.true))

pub returns-then-stop-ne-TAB : goal.returns-then-stop-ne-TAB
returns-then-stop-ne-TAB c = rw c.in_ok-v.was (sym (ends_nowhere c.in_ok-stop.ensures.cases _ c.if-stop-eq-LF.false c.if-stop-ne-TAB.true))

pub returns-in_err-end : goal.returns-in_err-end
returns-in_err-end c = rw (c.from_residual-in_err-end.ensures, c.in_ok-v.was) (sym (ends_in_no_field c.in_ok-stop.ensures.cases _ c.if-stop-ne-TAB.false (told_bad (ends 10 c.end_field.ensures c.read_origin.ensures) c.in_err-end.was)))

pub returns : goal.returns
returns c = rw c.in_ok-v.was (sym (ends_in_field c.in_ok-stop.ensures.cases _ c.if-stop-ne-TAB.false (told (ends 10 c.end_field.ensures c.read_origin.ensures) c.in_ok-end.was)))
