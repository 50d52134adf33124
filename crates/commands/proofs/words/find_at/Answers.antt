-- `find_at` meets its contract. Assumes nothing.
use native.Mathlib.Omega.{arith}
use Rattle.commands.proofs.Requests.{found_inside, found_there, not_there}
use Rattle.commands.proofs.words.find_at.Goals as goal

pub overflow_add-result : goal.overflow_add-result
overflow_add-result c = omega (arith, found_inside c.args.words.now c.args.at c.args.word.now c.word_at.ensures c.if-word_at.true)

pub returns-then-word_at : goal.returns-then-word_at
returns-then-word_at c = found_there c.args.words.now c.args.at c.args.word.now c.word_at.ensures c.if-word_at.true

pub returns : goal.returns
returns c = not_there c.args.words.now c.args.at c.args.word.now c.word_at.ensures c.if-word_at.false
