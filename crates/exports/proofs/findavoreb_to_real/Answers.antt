-- `findavoreb_to_real` meets its contract. Assumes nothing.
use Rattle.exports.proofs.Answers.{reads_real}
use Rattle.exports.proofs.findavoreb_to_real.Goals as goal

pub returns : goal.returns
returns c = reads_real c.to_real.ensures c.put_real.ensures
