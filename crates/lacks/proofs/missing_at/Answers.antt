-- `missing_at` meets its contract: by the kind of the node. Assumes nothing.
use Rattle.lacks.proofs.Naming.{at_variable, at_cell, at_other}
use borrow.Enum.Refused.{opened}
use Rattle.lacks.proofs.missing_at.Goals as goal

pub returns-in-Variable : goal.returns-in-Variable
returns-in-Variable c = λ h. at_variable _ c.expression_at-e.ensures c.variable.result c.in-Variable.is (c.variable.ensures h) c.unless_bound.ensures

pub returns-in-Address : goal.returns-in-Address
returns-in-Address c = λ h. at_cell _ c.expression_at-e.ensures c.cell.result c.in-Address.is (c.cell.ensures h) c.unless_bound-in-Address.ensures

pub returns-in_default : goal.returns-in_default
returns-in_default c = λ h. at_other _ c.expression_at-e.ensures (opened c.in_default.in_default-own.keys3)
