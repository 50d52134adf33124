-- `word_at` meets its contract. Assumes nothing.
use Rattle.text.proofs.Running.{word_starts}
use Rattle.text.proofs.reading.word_at.Goals as goal

pub returns : goal.returns
returns c = word_starts c.args.s.now c.args.word.now c.args.at c.min.ensures c.starts_with.ensures.value
