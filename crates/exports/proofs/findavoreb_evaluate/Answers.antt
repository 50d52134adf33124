-- `findavoreb_evaluate` meets its contract. Assumes nothing.
use Rattle.exports.proofs.Answers.{evaluates}
use Rattle.exports.proofs.findavoreb_evaluate.Goals as goal

pub returns : goal.returns
returns c = evaluates c.evaluate.ensures c.put_evaluated.ensures
