-- `put_two` meets its contract: all words are written. Assumes nothing.
use mathlib.Core.Path.{refl}
use Rattle.exports.specs.Words.{first_word}
use Rattle.exports.proofs.answer.put_two.Goals as goal

pub returns : goal.returns
unfolding first_word
returns c = record { words = refl; number = refl }
