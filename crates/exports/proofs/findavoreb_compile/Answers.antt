-- `findavoreb_compile` meets its contract. Assumes nothing.
use Rattle.exports.proofs.Answers.{compiles}
use Rattle.exports.proofs.findavoreb_compile.Goals as goal

pub returns : goal.returns
returns c = compiles c.compile.ensures c.put_written.ensures
