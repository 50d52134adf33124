-- `findavoreb_evaluate_marked` meets its contract. Assumes nothing.
use Rattle.exports.proofs.Answers.{evaluates_marked}
use Rattle.exports.proofs.findavoreb_evaluate_marked.Goals as goal

pub returns : goal.returns
returns c = evaluates_marked c.evaluate_marked.ensures c.put_evaluated.ensures
