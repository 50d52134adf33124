-- `say_marked` meets its contract. Assumes nothing.
use native.Mathlib.Omega.{arith}
use Rattle.text.proofs.Putting.{put_length}
use Rattle.outcomes.proofs.Following.{part_length, says_rows, room_after}
use borrow.Author.Rules.{rules}
use Rattle.outcomes.proofs.say_marked.Goals as goal

pub slice_bounds-say-end-2 : goal.slice_bounds-say-end-2
slice_bounds-say-end-2 c = part_length 1040 81920 c.args.said.now c.requires

pub say-n-requires : goal.say-n-requires
say-n-requires c = omega (arith, part_length 1040 81920 c.args.said.now c.requires)

pub write_used-requires : goal.write_used-requires
write_used-requires c = (search rules, room_after 1040 81920 c.args.said.now c.requires c.say-n.new.said (put_length c.say-n.ensures.put) c.say-n.ensures.within.0)

pub returns : goal.returns
returns c = says_rows 1040 81920 c.args.said.now c.requires c.say-n.new.said (put_length c.say-n.ensures.put) (c.say-n.ensures.put, c.say-n.ensures.within) c.write_used.ensures
