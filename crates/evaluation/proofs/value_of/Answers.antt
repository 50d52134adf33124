-- `value_of` meets its contract: each return is a law of proofs/Valued. Assumes nothing.
use mathlib.Core.Path.{refl}
use Rattle.expression.specs.Nodes.{grown}
use Rattle.evaluation.specs.Using.{used}
use Rattle.evaluation.proofs.Valued.{unused_answers, function_is, prefix_is, infix_is, variable_is, cell_is, pi_is, number_is, function_uses, prefix_uses, infix_uses, leaf_uses}
use Rattle.evaluation.proofs.value_of.Goals as goal

pub returns-in-FunctionCall : goal.returns-in-FunctionCall
unfolding used grown
returns-in-FunctionCall c = λ n o l v h. (function_is o l v c.expression_at-e.ensures _ c.in-FunctionCall.is c.number_at.ensures (c.calculate_function.ensures h).0, function_uses o l v c.expression_at-e.ensures _ c.in-FunctionCall.is c.number_at.ensures (c.calculate_function.ensures h).1)

pub returns-in-Infix : goal.returns-in-Infix
unfolding used grown
returns-in-Infix c = λ n o l v h. (infix_is o l v c.expression_at-e.ensures _ c.in-Infix.is c.number_at-in-Infix.ensures c.number_at-in-Infix-2.ensures (c.calculate_infix.ensures h).0, infix_uses o l v c.expression_at-e.ensures _ c.in-Infix.is c.number_at-in-Infix.ensures c.number_at-in-Infix-2.ensures (c.calculate_infix.ensures h).1)

pub returns-in-Prefix : goal.returns-in-Prefix
unfolding used grown
returns-in-Prefix c = λ n o l v h. unused_answers _ c.unused.ensures (prefix_is o l v c.expression_at-e.ensures _ c.in-Prefix.is c.number_at-in-Prefix.ensures c.calculate_prefix.ensures) (prefix_uses o l v c.expression_at-e.ensures _ c.in-Prefix.is)

pub returns-in-Variable : goal.returns-in-Variable
unfolding used grown
returns-in-Variable c = λ n o l v h. unused_answers _ c.unused-in-Variable.ensures (variable_is o l v c.expression_at-e.ensures _ c.in-Variable.is c.variable.result (c.variable.ensures h) c.bound_value.ensures) (leaf_uses o l v c.expression_at-e.ensures _ c.in-Variable.is refl)

pub returns-in-Address : goal.returns-in-Address
unfolding used grown
returns-in-Address c = λ n o l v h. unused_answers _ c.unused-in-Address.ensures (cell_is o l v c.expression_at-e.ensures _ c.in-Address.is c.cell.result (c.cell.ensures h) c.bound_value-in-Address.ensures) (leaf_uses o l v c.expression_at-e.ensures _ c.in-Address.is refl)

pub returns-in-PiConstant : goal.returns-in-PiConstant
unfolding used grown
returns-in-PiConstant c = λ n o l v h. unused_answers _ c.unused-in-PiConstant.ensures (pi_is o l v c.expression_at-e.ensures _ c.in-PiConstant.is c.pi.ensures) (leaf_uses o l v c.expression_at-e.ensures _ c.in-PiConstant.is refl)

pub returns-in-Number : goal.returns-in-Number
unfolding used grown
returns-in-Number c = λ n o l v h. unused_answers _ c.unused-in-Number.ensures (number_is o l v c.expression_at-e.ensures _ c.in-Number.is) (leaf_uses o l v c.expression_at-e.ensures _ c.in-Number.is refl)
