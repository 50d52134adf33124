-- `findavoreb_simplify_origins` meets its contract. Assumes nothing.
use Rattle.exports.proofs.Answers.{simplifies_origins}
use Rattle.exports.proofs.findavoreb_simplify_origins.Goals as goal

pub returns : goal.returns
returns c = simplifies_origins c.simplify_origins.ensures c.put_simplified.ensures
