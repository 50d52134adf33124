-- `line_length` meets its contract. Assumes nothing.
use native.Mathlib.Omega.{arith}
use Rattle.writing.proofs.LineTexts.{number_length, pi_length, variable_length, cell_length, call_length, prefix_length, infix_length}
use Rattle.writing.proofs.line.line_length.Goals as goal

pub overflow_add-result : goal.overflow_add-result
overflow_add-result c = omega (arith, c.decimal_length.ensures.1)

pub overflow_add-result-in-Address : goal.overflow_add-result-in-Address
overflow_add-result-in-Address c = omega (arith, c.decimal_length-in-Address-2.ensures.1, c.decimal_length-in-Address.ensures.1)

pub overflow_add-result-in-Address-2 : goal.overflow_add-result-in-Address-2
overflow_add-result-in-Address-2 c = omega (arith, c.decimal_length-in-Address-2.ensures.1, c.decimal_length-in-Address.ensures.1)

pub overflow_add-result-in-FunctionCall : goal.overflow_add-result-in-FunctionCall
overflow_add-result-in-FunctionCall c = omega (arith, c.decimal_length-in-FunctionCall.ensures.1, c.function_length.ensures.1)

pub overflow_add-result-in-FunctionCall-2 : goal.overflow_add-result-in-FunctionCall-2
overflow_add-result-in-FunctionCall-2 c = omega (arith, c.decimal_length-in-FunctionCall.ensures.1, c.function_length.ensures.1)

pub overflow_add-result-in-Prefix : goal.overflow_add-result-in-Prefix
overflow_add-result-in-Prefix c = omega (arith, c.decimal_length-in-Prefix.ensures.1)

pub overflow_add-result-in-Infix : goal.overflow_add-result-in-Infix
overflow_add-result-in-Infix c = omega (arith, c.decimal_length-in-Infix-2.ensures.1, c.decimal_length-in-Infix.ensures.1)

pub overflow_add-result-in-Infix-2 : goal.overflow_add-result-in-Infix-2
overflow_add-result-in-Infix-2 c = omega (arith, c.decimal_length-in-Infix-2.ensures.1, c.decimal_length-in-Infix.ensures.1)

pub returns-in-Number : goal.returns-in-Number
returns-in-Number c = rw (c.in-Number.is, number_length _) (omega (arith), omega (arith))

pub returns-in-PiConstant : goal.returns-in-PiConstant
returns-in-PiConstant c = rw (c.in-PiConstant.is, pi_length) (omega (arith), omega (arith))

pub returns-in-Variable : goal.returns-in-Variable
returns-in-Variable c = rw (c.in-Variable.is, variable_length _) (omega (arith, c.decimal_length.ensures.0, c.decimal_length.ensures.1), omega (arith, c.decimal_length.ensures.0, c.decimal_length.ensures.1))

pub returns-in-Address : goal.returns-in-Address
returns-in-Address c = rw (c.in-Address.is, cell_length _ _) (omega (arith, c.decimal_length-in-Address-2.ensures.0, c.decimal_length-in-Address-2.ensures.1, c.decimal_length-in-Address.ensures.0, c.decimal_length-in-Address.ensures.1), omega (arith, c.decimal_length-in-Address-2.ensures.0, c.decimal_length-in-Address-2.ensures.1, c.decimal_length-in-Address.ensures.0, c.decimal_length-in-Address.ensures.1))

pub returns-in-FunctionCall : goal.returns-in-FunctionCall
returns-in-FunctionCall c = rw (c.in-FunctionCall.is, call_length _ _) (omega (arith, c.decimal_length-in-FunctionCall.ensures.0, c.decimal_length-in-FunctionCall.ensures.1, c.function_length.ensures.0, c.function_length.ensures.1), omega (arith, c.decimal_length-in-FunctionCall.ensures.0, c.decimal_length-in-FunctionCall.ensures.1, c.function_length.ensures.0, c.function_length.ensures.1))

pub returns-in-Prefix : goal.returns-in-Prefix
returns-in-Prefix c = rw (c.in-Prefix.is, prefix_length _ _) (omega (arith, c.decimal_length-in-Prefix.ensures.0, c.decimal_length-in-Prefix.ensures.1), omega (arith, c.decimal_length-in-Prefix.ensures.0, c.decimal_length-in-Prefix.ensures.1))

pub returns-in-Infix : goal.returns-in-Infix
returns-in-Infix c = rw (c.in-Infix.is, infix_length _ _) (omega (arith, c.decimal_length-in-Infix-2.ensures.0, c.decimal_length-in-Infix-2.ensures.1, c.decimal_length-in-Infix.ensures.0, c.decimal_length-in-Infix.ensures.1), omega (arith, c.decimal_length-in-Infix-2.ensures.0, c.decimal_length-in-Infix-2.ensures.1, c.decimal_length-in-Infix.ensures.0, c.decimal_length-in-Infix.ensures.1))
