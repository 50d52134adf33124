-- `end_field` meets its contract. Assumes nothing.
use Rattle.std.proofs.Common.{sym}
use Rattle.text.proofs.Running.{ended_bad, ended_end, ended_other, ended_is}
use Rattle.text.proofs.reading.end_field.Goals as goal

pub returns-in_err-v : goal.returns-in_err-v
returns-in_err-v c = rw (c.from_residual.ensures, c.in_err-v.was) (sym (ended_bad _))

pub returns-in_err-b : goal.returns-in_err-b
returns-in_err-b c = rw (c.from_residual-in_err-b.ensures, c.in_ok-v.was) (sym (ended_end _ _ _ c.in_err-b.ensures.cases))

pub returns-then-b-stop : goal.returns-then-b-stop
returns-then-b-stop c = rw c.in_ok-v.was (sym (ended_other _ _ c.in_ok-b.ensures.cases c.if-b-stop.true))

pub returns : goal.returns
returns c = rw c.in_ok-v.was (sym (ended_is _ _ c.in_ok-b.ensures.cases c.if-b-stop.false))
