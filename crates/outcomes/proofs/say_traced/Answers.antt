-- `say_traced` meets its contract. Assumes nothing.
use native.Mathlib.Omega.{arith}
use Rattle.outcomes.proofs.Following.{part_length, says_standing, room_after}
use Rattle.outcomes.proofs.say_traced.Goals as goal

pub slice_bounds-say_marked-end-2 : goal.slice_bounds-say_marked-end-2
slice_bounds-say_marked-end-2 c = part_length 56320 82960 c.args.said.now c.requires.0

pub say_marked-n-requires : goal.say_marked-n-requires
say_marked-n-requires c = omega (arith, part_length 56320 82960 c.args.said.now c.requires.0)

pub say_standing-requires : goal.say_standing-requires
say_standing-requires c = (room_after 56320 82960 c.args.said.now c.requires.0 c.say_marked-n.new.said c.say_marked-n.auto.said c.say_marked-n.ensures.within.0, c.requires.1)

pub returns : goal.returns
returns c = says_standing 56320 82960 c.args.said.now c.requires.0 c.say_marked-n.new.said c.say_marked-n.auto.said c.args.out.now c.args.outcome c.args.marks c.args.traced c.say_marked-n.ensures c.say_standing.ensures
