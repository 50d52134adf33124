-- `findavoreb_play` meets its contract. Assumes nothing.
use Rattle.exports.proofs.Answers.{plays}
use Rattle.exports.proofs.findavoreb_play.Goals as goal

pub returns : goal.returns
returns c = plays c.play.ensures c.put_evaluated.ensures
