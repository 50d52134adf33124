-- `numbers_of` meets its contract. Assumes nothing.
use mathlib.Core.Path.{refl}
use Rattle.expression.specs.Nodes.{grown}
use Rattle.arms.specs.Looks.{is_number_of, number_in}
use Rattle.arms.proofs.Looking.{other_than_number, both_true, not_first, not_second}
use Rattle.arms.proofs.looks.numbers_of.Goals as goal

pub returns-in_default : goal.returns-in_default
returns-in_default c = λ m. not_first _ (other_than_number _ c.in_default.not-Number m)

pub returns-in_default-right : goal.returns-in_default-right
returns-in_default-right c = λ m. not_second _ (other_than_number _ c.in_default-right.not-Number m)

pub returns : goal.returns
unfolding grown is_number_of number_in
returns c = λ m. rw (c.in-Number.is, c.in-Number-right.is) (both_true refl refl, (refl, refl))
