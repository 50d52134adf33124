-- `write_traced` meets its contract. Assumes nothing.
use native.Mathlib.Omega.{arith}
use Rattle.text.proofs.Putting.{put_length}
use Rattle.writing.proofs.TracedLines.{line_some, traced_long, end_length, traced_put}
use Rattle.writing.proofs.traced.write_traced.Goals as goal

pub write_line-plain-requires : goal.write_line-plain-requires
write_line-plain-requires c = omega (arith, c.requires, traced_long c.args.origin c.args.e)

pub overflow_sub-plain : goal.overflow_sub-plain
overflow_sub-plain c = omega (arith, c.write_line-plain.ensures.place, line_some c.args.e)

pub write_end-requires : goal.write_end-requires
write_end-requires c = omega (arith, c.requires, traced_long c.args.origin c.args.e, line_some c.args.e, end_length c.args.origin, c.write_line-plain.ensures.place, put_length c.write_line-plain.ensures)

pub returns : goal.returns
returns c = traced_put c.args.e c.args.origin c.write_line-plain.ensures c.write_end.ensures
