-- `findavoreb_substitute` meets its contract. Assumes nothing.
use Rattle.exports.proofs.Answers.{substitutes}
use Rattle.exports.proofs.findavoreb_substitute.Goals as goal

pub returns : goal.returns
returns c = substitutes c.substitute.ensures c.put_written.ensures
