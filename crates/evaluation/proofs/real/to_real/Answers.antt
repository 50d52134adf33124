-- `to_real` meets its contract. Assumes nothing.
use Rattle.evaluation.proofs.Parts.{pi_real, number_real, variable_no, cell_no, function_no, prefix_no, infix_no}
use Rattle.evaluation.proofs.real.to_real.Goals as goal

pub returns-in-PiConstant : goal.returns-in-PiConstant
returns-in-PiConstant c = λ n h l. pi_real h l c.expression_at-e.ensures c.in-PiConstant.is c.pi.ensures

pub returns-in-Number : goal.returns-in-Number
returns-in-Number c = λ n h l. number_real h l c.expression_at-e.ensures c.in-Number.is c.real_part.ensures

pub returns-in-Address : goal.returns-in-Address
returns-in-Address c = λ n h l. cell_no h l c.expression_at-e.ensures c.in-Address.is

pub returns-in-FunctionCall : goal.returns-in-FunctionCall
returns-in-FunctionCall c = λ n h l. function_no h l c.expression_at-e.ensures c.in-FunctionCall.is

pub returns-in-Infix : goal.returns-in-Infix
returns-in-Infix c = λ n h l. infix_no h l c.expression_at-e.ensures c.in-Infix.is

pub returns-in-Prefix : goal.returns-in-Prefix
returns-in-Prefix c = λ n h l. prefix_no h l c.expression_at-e.ensures c.in-Prefix.is

pub returns-in-Variable : goal.returns-in-Variable
returns-in-Variable c = λ n h l. variable_no h l c.expression_at-e.ensures c.in-Variable.is
