-- `findavoreb_check` meets its contract. Assumes nothing.
use mathlib.Core.Path.{ap}
use Rattle.exports.specs.Words.{checked_words}
use Rattle.exports.proofs.Answers.{known_as}
use Rattle.exports.proofs.findavoreb_check.Goals as goal

pub returns : goal.returns
returns c = known_as (ap (checked_words _) c.check.ensures) c.put_checked.ensures
