-- `field_count` meets its contract. Assumes nothing.
use Rattle.faults.proofs.Telling.{count_more, count_plain}
use Rattle.faults.proofs.fields.field_count.Goals as goal

pub returns-then-origin : goal.returns-then-origin
returns-then-origin c = count_more c.args.form.now c.if-origin.true

pub returns : goal.returns
returns c = count_plain c.args.form.now c.if-origin.false
