-- `say_standing` meets its contract. Assumes nothing.
use Rattle.outcomes.proofs.Following.{bytes_length, standing_told, nothing_told}
use Rattle.outcomes.proofs.say_standing.Goals as goal

pub slice_bounds-write_standing-end : goal.slice_bounds-write_standing-end
slice_bounds-write_standing-end c = bytes_length c.args.out.now c.args.outcome c.bytes_of-n.ensures c.requires.1

pub returns-then-traced : goal.returns-then-traced
returns-then-traced c = standing_told c.args.out.now c.args.outcome c.if-traced.true c.bytes_of-n.ensures c.write_standing.ensures

pub returns : goal.returns
returns c = nothing_told c.args.out.now c.args.outcome c.if-traced.false
