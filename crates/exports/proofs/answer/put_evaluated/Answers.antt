-- `put_evaluated` meets its contract. Assumes nothing.
use Rattle.exports.proofs.Answers.{has_value}
use Rattle.exports.specs.Words.{evaluated_words}
use Rattle.exports.proofs.answer.put_evaluated.Goals as goal

pub returns-in-Ok : goal.returns-in-Ok
unfolding evaluated_words
returns-in-Ok c = has_value c.in-Ok.is c.to_bits.ensures c.to_bits-in-Ok.ensures c.put_words.ensures

pub returns-in-Err : goal.returns-in-Err
unfolding evaluated_words
returns-in-Err c = rw c.in-Err.is c.put_refusal.ensures
