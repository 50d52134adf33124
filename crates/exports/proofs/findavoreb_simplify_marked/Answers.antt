-- `findavoreb_simplify_marked` meets its contract. Assumes nothing.
use Rattle.exports.proofs.Answers.{simplifies_marked}
use Rattle.exports.proofs.findavoreb_simplify_marked.Goals as goal

pub returns : goal.returns
returns c = simplifies_marked c.simplify_marked.ensures c.put_simplified.ensures
