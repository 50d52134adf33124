-- `write_fields` meets its contract: what the writer of each kind of step tells is told of the step. Assumes nothing.
use Rattle.shown.proofs.Pieces.{pi_told, prefix_told, infix_told, told_as}
use Rattle.shown.proofs.write_fields.Goals as goal

pub returns-in-Number : goal.returns-in-Number
returns-in-Number c = told_as c.in-Number.is c.write_number.ensures

pub returns-in-Pi : goal.returns-in-Pi
returns-in-Pi c = told_as c.in-Pi.is (pi_told c.write_bytes.ensures)

pub returns-in-Variable : goal.returns-in-Variable
returns-in-Variable c = told_as c.in-Variable.is c.write_variable.ensures

pub returns-in-Memory : goal.returns-in-Memory
returns-in-Memory c = told_as c.in-Memory.is c.write_memory.ensures

pub returns-in-Function : goal.returns-in-Function
returns-in-Function c = told_as c.in-Function.is c.write_call.ensures

pub returns-in-Prefix : goal.returns-in-Prefix
returns-in-Prefix c = told_as c.in-Prefix.is (prefix_told _ c.prefix_byte.ensures c.write_operator.ensures)

pub returns-in-Infix : goal.returns-in-Infix
returns-in-Infix c = told_as c.in-Infix.is (infix_told _ c.infix_byte.ensures c.write_operator-in-Infix.ensures)
