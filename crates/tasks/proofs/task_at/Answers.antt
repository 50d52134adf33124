-- `task_at` meets its contract. Assumes nothing.
use mathlib.Core.Path.{refl, sym, ◌∙◌}
use borrow.Author.Tests.{eqb-true, eqb-false}
use Rattle.tasks.specs.Deciding.{node_task}
use Rattle.tasks.proofs.Deciding.{call_task, prefix_task, infix_task, spent_task}
use borrow.Enum.Refused.{opened}
use Rattle.tasks.proofs.task_at.Goals as goal

pub returns-in-PiConstant : goal.returns-in-PiConstant
returns-in-PiConstant c = rw c.in-PiConstant.is (unfold node_task in refl)

pub returns-then-is_spent : goal.returns-then-is_spent
returns-then-is_spent c = spent_task _ _ (opened c.in_default.in_default-own.keys2) (eqb-true _ _ (sym c.is_spent.ensures ∙ c.if-is_spent.true))

pub returns-in-FunctionCall : goal.returns-in-FunctionCall
returns-in-FunctionCall c = rw c.in-FunctionCall.is (call_task _ _ _ _ (eqb-false _ _ (sym c.is_spent.ensures ∙ c.if-is_spent.false)))

pub returns-in-Infix : goal.returns-in-Infix
returns-in-Infix c = rw c.in-Infix.is (infix_task _ _ _ _ _ (eqb-false _ _ (sym c.is_spent.ensures ∙ c.if-is_spent.false)))

pub returns-in-Prefix : goal.returns-in-Prefix
returns-in-Prefix c = rw c.in-Prefix.is (prefix_task _ _ _ _ (eqb-false _ _ (sym c.is_spent.ensures ∙ c.if-is_spent.false)))

pub returns-in-Address : goal.returns-in-Address
returns-in-Address c = rw c.in-Address.is (unfold node_task in refl)

pub returns-in-Number : goal.returns-in-Number
returns-in-Number c = rw c.in-Number.is (unfold node_task in refl)

pub returns-in-PiConstant-e : goal.returns-in-PiConstant-e
returns-in-PiConstant-e c = rw c.in-PiConstant-e.is (unfold node_task in refl)

pub returns-in-Variable : goal.returns-in-Variable
returns-in-Variable c = rw c.in-Variable.is (unfold node_task in refl)
