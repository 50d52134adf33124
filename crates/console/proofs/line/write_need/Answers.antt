-- `write_need` meets its contract. Assumes nothing.
use native.Mathlib.Omega.{arith}
use Rattle.text.proofs.Putting.{put_then, put_length}
use Rattle.console.proofs.Lines.{put_line, need_text, need_short, name_short, parts_length}
use Rattle.console.proofs.line.write_need.Goals as goal

pub write_operation-q-requires : goal.write_operation-q-requires
write_operation-q-requires c = omega (arith, c.requires, c.write_bytes-p.ensures.place, put_length c.write_bytes-p.ensures, name_short c.args.operation)

pub write_byte-r-requires : goal.write_byte-r-requires
write_byte-r-requires c = omega (arith, c.requires, c.write_bytes-p.ensures.place, put_length c.write_bytes-p.ensures, name_short c.args.operation, c.write_operation-q.ensures.place, put_length c.write_operation-q.ensures)

pub write_parts-s-requires : goal.write_parts-s-requires
write_parts-s-requires c = omega (arith, c.requires, c.write_bytes-p.ensures.place, put_length c.write_bytes-p.ensures, name_short c.args.operation, c.write_operation-q.ensures.place, put_length c.write_operation-q.ensures, c.write_byte-r.ensures.place, put_length c.write_byte-r.ensures)

pub write_parts-requires : goal.write_parts-requires
write_parts-requires c = omega (arith, c.requires, c.write_bytes-p.ensures.place, put_length c.write_bytes-p.ensures, name_short c.args.operation, c.write_operation-q.ensures.place, put_length c.write_operation-q.ensures, c.write_byte-r.ensures.place, put_length c.write_byte-r.ensures, c.write_parts-s.ensures.place, put_length c.write_parts-s.ensures, parts_length c.args.x 9)

pub returns : goal.returns
returns c = record { put = (put_line (rw (need_text c.args.operation c.args.x c.args.y) (put_then c.write_bytes-p.ensures (put_then c.write_operation-q.ensures (put_then c.write_byte-r.ensures (put_then c.write_parts-s.ensures c.write_parts.ensures))))) (need_short c.args.operation c.args.x c.args.y) c.requires).0; within = (put_line (rw (need_text c.args.operation c.args.x c.args.y) (put_then c.write_bytes-p.ensures (put_then c.write_operation-q.ensures (put_then c.write_byte-r.ensures (put_then c.write_parts-s.ensures c.write_parts.ensures))))) (need_short c.args.operation c.args.x c.args.y) c.requires).1 }
