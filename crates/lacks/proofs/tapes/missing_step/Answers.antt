-- `missing_step` meets its contract: by the kind of the step. Assumes nothing.
use mathlib.Core.Path.{ap, ◌∙◌}
use Rattle.lacks.specs.Lacking.{unless_bound, missing_leaf, missing_step}
use Rattle.lacks.proofs.tapes.missing_step.Goals as goal

pub returns-in-Variable : goal.returns-in-Variable
unfolding missing_leaf missing_step
returns-in-Variable c = λ h. rw c.in-Variable.is (c.unless_bound.ensures ∙ ap (unless_bound _) (c.variable.ensures h))

pub returns-in-Memory : goal.returns-in-Memory
unfolding missing_leaf missing_step
returns-in-Memory c = λ h. rw c.in-Memory.is (c.unless_bound-in-Memory.ensures ∙ ap (unless_bound _) (c.cell.ensures h))

pub returns-in-Number : goal.returns-in-Number
unfolding missing_leaf missing_step
returns-in-Number c = λ h. rw c.in-Number.is

pub returns-in-Pi : goal.returns-in-Pi
unfolding missing_leaf missing_step
returns-in-Pi c = λ h. rw c.in-Pi.is

pub returns-in-Function : goal.returns-in-Function
unfolding missing_leaf missing_step
returns-in-Function c = λ h. rw c.in-Function.is

pub returns-in-Prefix : goal.returns-in-Prefix
unfolding missing_leaf missing_step
returns-in-Prefix c = λ h. rw c.in-Prefix.is

pub returns-in-Infix : goal.returns-in-Infix
unfolding missing_leaf missing_step
returns-in-Infix c = λ h. rw c.in-Infix.is
