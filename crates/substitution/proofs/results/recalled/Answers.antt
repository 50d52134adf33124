-- `recalled` meets its contract. Assumes nothing.
use Rattle.substitution.proofs.Settling.{numbered_is}
use Rattle.substitution.proofs.results.recalled.Goals as goal

pub returns : goal.returns
returns c = rw (← c.word_of.ensures, ← c.read-word.ensures) (numbered_is _ c.checked_sub.ensures)
