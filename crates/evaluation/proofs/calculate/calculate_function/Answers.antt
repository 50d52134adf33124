-- `calculate_function` meets its contract. Assumes nothing.
use Rattle.evaluation.specs.Evaluating.{calculate_function}
use Rattle.evaluation.specs.Using.{used_by_function}
use Rattle.evaluation.proofs.Valued.{one_used}
use Rattle.evaluation.proofs.calculate.calculate_function.Goals as goal

pub returns-in-Sine : goal.returns-in-Sine
unfolding calculate_function used_by_function
returns-in-Sine c = λ h. rw (c.in-Sine.is, ← c.zero.ensures) (one_used _ (c.ask.ensures h))

pub returns-in-Cis : goal.returns-in-Cis
unfolding calculate_function used_by_function
returns-in-Cis c = λ h. rw c.in-Cis.is (c.calculate_cis.ensures h)

pub returns-in-Cosine : goal.returns-in-Cosine
unfolding calculate_function used_by_function
returns-in-Cosine c = λ h. rw (c.in-Cosine.is, ← c.zero-in-Cosine.ensures) (one_used _ (c.ask-in-Cosine.ensures h))

pub returns-in-Exponent : goal.returns-in-Exponent
unfolding calculate_function used_by_function
returns-in-Exponent c = λ h. rw (c.in-Exponent.is, ← c.zero-in-Exponent.ensures) (one_used _ (c.ask-in-Exponent.ensures h))

pub returns-in-SquareRoot : goal.returns-in-SquareRoot
unfolding calculate_function used_by_function
returns-in-SquareRoot c = λ h. rw (c.in-SquareRoot.is, ← c.zero-in-SquareRoot.ensures) (one_used _ (c.ask-in-SquareRoot.ensures h))
