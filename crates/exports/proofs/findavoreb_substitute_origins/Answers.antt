-- `findavoreb_substitute_origins` meets its contract. Assumes nothing.
use Rattle.exports.proofs.Answers.{substitutes_origins}
use Rattle.exports.proofs.findavoreb_substitute_origins.Goals as goal

pub returns : goal.returns
returns c = substitutes_origins c.substitute_origins.ensures c.put_written.ensures
