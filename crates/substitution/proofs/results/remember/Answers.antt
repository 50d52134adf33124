-- `remember` meets its contract. Assumes nothing.
use Rattle.substitution.proofs.results.remember.Goals as goal

pub returns : goal.returns
returns c = rw (← c.word_of.ensures) c.put.ensures
