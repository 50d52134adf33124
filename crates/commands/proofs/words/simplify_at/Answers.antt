-- `simplify_at` meets its contract. Assumes nothing.
use Rattle.commands.proofs.Requests.{takes_both}
use Rattle.commands.proofs.words.simplify_at.Goals as goal

pub returns : goal.returns
returns c = rw (c.is_some.ensures, c.is_some-2.ensures, c.unwrap_or.ensures, c.unwrap_or-next.ensures) (takes_both c.args.words.now c.args.at c.args.limit c.find_at-marks.result c.find_at-origins.result c.find_at-marks.ensures (rw c.unwrap_or-next.ensures at c.find_at-origins.ensures))
