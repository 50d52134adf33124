-- `field_fault` meets its contract: the field is whole, or it is not. Assumes nothing.
use mathlib.Core.Path.{sym, ◌∙◌}
use native.Mathlib.Omega.{arith}
use Rattle.text.proofs.Fields.{told, told_bad}
use Rattle.faults.specs.Faulting.{field_fault}
use Rattle.faults.proofs.Telling.{field_stuck}
use Rattle.faults.proofs.fields.field_fault.Goals as goal

pub returns-in-Some : goal.returns-in-Some
unfolding field_fault
returns-in-Some c = c.told.ensures ∙ sym (rw (told c.read_field.ensures c.in-Some.is))

pub overflow_add-left : goal.overflow_add-left
unfolding field_fault
overflow_add-left c = omega (arith, c.requires)

pub returns : goal.returns
unfolding field_fault
returns c = c.told-2.ensures ∙ field_stuck c.args.kind c.args.left _ c.base_of-base.ensures c.no_digit-stuck.ensures (told_bad c.read_field.ensures c.in_default.is)
