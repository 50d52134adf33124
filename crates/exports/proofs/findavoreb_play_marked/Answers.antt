-- `findavoreb_play_marked` meets its contract. Assumes nothing.
use Rattle.exports.proofs.Answers.{plays_marked}
use Rattle.exports.proofs.findavoreb_play_marked.Goals as goal

pub returns : goal.returns
returns c = plays_marked c.play_marked.ensures c.put_evaluated.ensures
