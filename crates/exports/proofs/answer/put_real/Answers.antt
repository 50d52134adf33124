-- `put_real` meets its contract. Assumes nothing.
use Rattle.exports.proofs.Answers.{has_real}
use Rattle.exports.specs.Words.{real_words}
use Rattle.exports.proofs.answer.put_real.Goals as goal

pub returns-in-Ok : goal.returns-in-Ok
unfolding real_words
returns-in-Ok c = has_real c.in-Ok.is c.to_bits.ensures c.put_words.ensures

pub returns-in-Err : goal.returns-in-Err
unfolding real_words
returns-in-Err c = rw c.in-Err.is c.put_refusal.ensures
