-- `arithmetic` meets its contract. Assumes nothing.
use mathlib.Core.Path.{ap}
use Rattle.evaluation.specs.declared.Evaluation.{Evaluation}
use Rattle.evaluation.specs.Evaluating.{calculate_infix}
use Rattle.evaluation.proofs.calculate.arithmetic.Goals as goal

pub returns-in-Caret : goal.returns-in-Caret
unfolding calculate_infix
returns-in-Caret c = λ rows q. absurd (q c.in-Caret.is)

pub returns-in-Plus : goal.returns-in-Plus
unfolding calculate_infix
returns-in-Plus c = λ rows q. rw c.in-Plus.is (ap Evaluation.Value c.add.ensures)

pub returns-in-Minus : goal.returns-in-Minus
unfolding calculate_infix
returns-in-Minus c = λ rows q. rw c.in-Minus.is (ap Evaluation.Value c.sub.ensures)

pub returns-in-Slash : goal.returns-in-Slash
unfolding calculate_infix
returns-in-Slash c = λ rows q. rw c.in-Slash.is (ap Evaluation.Value c.div.ensures)

pub returns-in-Star : goal.returns-in-Star
unfolding calculate_infix
returns-in-Star c = λ rows q. rw c.in-Star.is (ap Evaluation.Value c.mul.ensures)
