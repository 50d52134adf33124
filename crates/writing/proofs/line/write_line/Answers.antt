-- `write_line` meets its contract. Assumes nothing.
use Rattle.writing.proofs.LineTexts.{prefix_length, infix_length}
use Rattle.writing.proofs.line.write_line.Goals as goal

pub write_number-requires : goal.write_number-requires
write_number-requires c = rw c.in-Number.is at c.requires

pub write_pi-requires : goal.write_pi-requires
write_pi-requires c = rw c.in-PiConstant.is at c.requires

pub write_variable-requires : goal.write_variable-requires
write_variable-requires c = rw c.in-Variable.is at c.requires

pub write_cell-requires : goal.write_cell-requires
write_cell-requires c = rw c.in-Address.is at c.requires

pub write_call-requires : goal.write_call-requires
write_call-requires c = rw c.in-FunctionCall.is at c.requires

pub write_prefix-requires : goal.write_prefix-requires
write_prefix-requires c = rw (c.in-Prefix.is, prefix_length) at c.requires

pub write_infix-requires : goal.write_infix-requires
write_infix-requires c = rw (c.in-Infix.is, infix_length) at c.requires

pub returns-in-Number : goal.returns-in-Number
returns-in-Number c = rw c.in-Number.is c.write_number.ensures

pub returns-in-PiConstant : goal.returns-in-PiConstant
returns-in-PiConstant c = rw c.in-PiConstant.is c.write_pi.ensures

pub returns-in-Variable : goal.returns-in-Variable
returns-in-Variable c = rw c.in-Variable.is c.write_variable.ensures

pub returns-in-Address : goal.returns-in-Address
returns-in-Address c = rw c.in-Address.is c.write_cell.ensures

pub returns-in-FunctionCall : goal.returns-in-FunctionCall
returns-in-FunctionCall c = rw c.in-FunctionCall.is c.write_call.ensures

pub returns-in-Prefix : goal.returns-in-Prefix
returns-in-Prefix c = rw c.in-Prefix.is (c.write_prefix.ensures _ c.prefix_byte.ensures)

pub returns-in-Infix : goal.returns-in-Infix
returns-in-Infix c = rw c.in-Infix.is (c.write_infix.ensures _ c.infix_byte.ensures)
