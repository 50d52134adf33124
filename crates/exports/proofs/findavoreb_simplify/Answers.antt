-- `findavoreb_simplify` meets its contract. Assumes nothing.
use Rattle.exports.proofs.Answers.{simplifies}
use Rattle.exports.proofs.findavoreb_simplify.Goals as goal

pub returns : goal.returns
returns c = simplifies c.simplify.ensures c.put_simplified.ensures
