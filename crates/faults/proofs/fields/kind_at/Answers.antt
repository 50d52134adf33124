-- `kind_at` meets its contract. Assumes nothing.
use mathlib.Core.Path.{sym}
use lib.ListN.{get_or-eq_default}
use Rattle.faults.proofs.Telling.{kind_plain}
use Rattle.faults.proofs.fields.kind_at.Goals as goal

pub returns-then-k-form : goal.returns-then-k-form
returns-then-k-form c = sym (kind_plain c.args.form.now _ c.if-k-form.true)

pub returns-else-k-form : goal.returns-else-k-form
returns-else-k-form c = sym (get_or-eq_default c.args.form.now 64 c.if-k-form.false)
