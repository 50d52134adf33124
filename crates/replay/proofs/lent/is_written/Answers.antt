-- `replay::lent::is_written` meets its contract: the wanted bytes, then the blank ones. Assumes nothing.
use mathlib.Core.Bool.{not}
use mathlib.Core.Path.{ap}
use Rattle.replay.proofs.Judging.{bytes_no, rest_no, written_yes}
use Rattle.replay.proofs.lent.is_written.Goals as goal

pub returns-then-not-is_same : goal.returns-then-not-is_same
returns-then-not-is_same g c = bytes_no c.args.wanted.now c.args.paper.now c.part-n.ensures.least c.is_same.ensures (ap not c.if-not-is_same.true)

pub returns-then-not-is_all : goal.returns-then-not-is_all
returns-then-not-is_all g c = rest_no c.args.wanted.now c.args.paper.now c.part-n.ensures.least c.is_all.ensures (ap not c.if-not-is_all.true)

pub returns : goal.returns
returns g c = written_yes c.args.wanted.now c.args.paper.now c.part-n.ensures.least c.is_same.ensures (ap not c.if-not-is_same.false) c.is_all.ensures (ap not c.if-not-is_all.false)
