-- `fields_fault` meets its contract. The invariant is `Fielding`; the measure is what is left of the form. Assumes nothing.
use mathlib.Core.Path.{refl, ◌∙◌}
use native.Mathlib.Omega.{arith}
use Rattle.text.proofs.Fields.{ends}
use Rattle.faults.proofs.Telling.{fields_done, field_read, field_bad, kind_with}
use Rattle.faults.proofs.fields.fields_fault.Goals as goal

pub loop-k-init : goal.loop-k-init
loop-k-init c = record { few = omega arith; left = refl }

pub overflow_sub-left : goal.overflow_sub-left
overflow_sub-left c = omega arith

pub overflow_sub-left-in-loop-k : goal.overflow_sub-left-in-loop-k
overflow_sub-left-in-loop-k c = omega arith

pub field_fault-requires : goal.field_fault-requires
field_fault-requires c = omega arith

pub returns-in_default : goal.returns-in_default
returns-in_default c = c.field_fault.ensures ∙ field_bad c.loop-k.invariant _ (omega (arith, c.loop-k-test.true, c.field_count-count.ensures)) (omega (arith, c.field_count-count.ensures)) c.stop_of.ensures (kind_with c.args.form.now c.args.origin c.loop-k.k c.kind_at-kind.ensures c.field_count-count.ensures c.loop-k-test.true) (ends _ c.end_field.ensures c.read_field.ensures) c.in_default.is

pub loop-k-preserved : goal.loop-k-preserved
loop-k-preserved c = field_read c.loop-k.invariant _ (omega (arith, c.loop-k-test.true, c.field_count-count.ensures)) (omega (arith, c.field_count-count.ensures)) c.stop_of.ensures (kind_with c.args.form.now c.args.origin c.loop-k.k c.kind_at-kind.ensures c.field_count-count.ensures c.loop-k-test.true) (ends _ c.end_field.ensures c.read_field.ensures) c.in-Some.is

pub returns : goal.returns
returns c = fields_done c.loop-k.invariant (omega (arith, c.loop-k-test.false, c.field_count-count.ensures))
