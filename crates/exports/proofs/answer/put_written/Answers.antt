-- `put_written` meets its contract. Assumes nothing.
use Rattle.exports.specs.Words.{written_words}
use Rattle.exports.proofs.answer.put_written.Goals as goal

pub returns-in-Ok : goal.returns-in-Ok
unfolding written_words
returns-in-Ok c = rw c.in-Ok.is c.put_words.ensures

pub returns-in-Err : goal.returns-in-Err
unfolding written_words
returns-in-Err c = rw c.in-Err.is c.put_refusal.ensures
