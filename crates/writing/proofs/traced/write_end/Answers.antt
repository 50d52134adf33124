-- `write_end` meets its contract. Assumes nothing.
use native.Mathlib.Omega.{arith}
use Rattle.text.proofs.Putting.{put_length}
use Rattle.writing.proofs.TracedLines.{end_length, end_put}
use Rattle.writing.proofs.traced.write_end.Goals as goal

pub write_origin-q-requires : goal.write_origin-q-requires
write_origin-q-requires c = omega (arith, c.requires, end_length c.args.origin, c.write_byte-p.ensures.place, put_length c.write_byte-p.ensures)

pub write_byte-requires : goal.write_byte-requires
write_byte-requires c = omega (arith, c.requires, end_length c.args.origin, c.write_byte-p.ensures.place, put_length c.write_byte-p.ensures, c.write_origin-q.ensures.place, put_length c.write_origin-q.ensures)

pub returns : goal.returns
returns c = end_put c.args.origin c.write_byte-p.ensures c.write_origin-q.ensures c.write_byte.ensures
