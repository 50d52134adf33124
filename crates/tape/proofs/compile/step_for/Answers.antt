-- `step_for` meets its contract: by the kind of the node. Assumes nothing.
use mathlib.Core.Path.{refl}
use Rattle.tape.specs.Run.{step_for}
use Rattle.tape.proofs.compile.step_for.Goals as goal

pub returns-in-Number : goal.returns-in-Number
unfolding step_for
returns-in-Number c = rw c.in-Number.is refl

pub returns-in-PiConstant : goal.returns-in-PiConstant
unfolding step_for
returns-in-PiConstant c = rw c.in-PiConstant.is refl

pub returns-in-Variable : goal.returns-in-Variable
unfolding step_for
returns-in-Variable c = rw c.in-Variable.is refl

pub returns-in-Address : goal.returns-in-Address
unfolding step_for
returns-in-Address c = rw c.in-Address.is refl

pub returns-in-FunctionCall : goal.returns-in-FunctionCall
unfolding step_for
returns-in-FunctionCall c = rw c.in-FunctionCall.is refl

pub returns-in-Prefix : goal.returns-in-Prefix
unfolding step_for
returns-in-Prefix c = rw c.in-Prefix.is refl

pub returns-in-Infix : goal.returns-in-Infix
unfolding step_for
returns-in-Infix c = rw c.in-Infix.is refl
