-- `stop_after` meets its contract. Assumes nothing.
use borrow.Author.Rules.{rules}
use Rattle.console.specs.TapeText.{stop_after}
use Rattle.console.proofs.tape.stop_after.Goals as goal

pub returns : goal.returns
unfolding stop_after
returns c = search rules
