-- `write_stands` meets its contract. Assumes nothing.
use Rattle.origins.proofs.Sentences.{stands_put}
use Rattle.origins.proofs.standing.write_stands.Goals as goal

pub returns : goal.returns
returns c = stands_put _ _ c.write_named-p.ensures c.write_named-q.ensures c.write_bytes.ensures
