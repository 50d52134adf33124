-- `write_refused` meets its contract. Assumes nothing.
use native.Mathlib.Omega.{arith}
use Rattle.text.specs.Writing.{in_decimal}
use Rattle.text.proofs.Putting.{put_then, put_length}
use Rattle.console.proofs.Lines.{put_line, refused_text_lem, refused_short, decimal_short, ending_length}
use Rattle.console.proofs.line.write_refused.Goals as goal

pub write_decimal_field-q-requires : goal.write_decimal_field-q-requires
write_decimal_field-q-requires c = omega (arith, c.requires, c.write_bytes-p.ensures.place, put_length c.write_bytes-p.ensures, decimal_short c.args.number (omega arith), ending_length (in_decimal c.args.number) 9)

pub write_decimal_field-requires : goal.write_decimal_field-requires
write_decimal_field-requires c = omega (arith, c.requires, c.write_bytes-p.ensures.place, put_length c.write_bytes-p.ensures, decimal_short c.args.number (omega arith), ending_length (in_decimal c.args.number) 9, c.write_decimal_field-q.ensures.place, put_length c.write_decimal_field-q.ensures, decimal_short c.args.place (omega arith), ending_length (in_decimal c.args.place) 10)

pub returns : goal.returns
returns c = record { put = (put_line (rw (refused_text_lem c.args.number c.args.place) (put_then c.write_bytes-p.ensures (put_then c.write_decimal_field-q.ensures c.write_decimal_field.ensures))) (refused_short c.args.number c.args.place (omega arith) (omega arith)) c.requires).0; within = (put_line (rw (refused_text_lem c.args.number c.args.place) (put_then c.write_bytes-p.ensures (put_then c.write_decimal_field-q.ensures c.write_decimal_field.ensures))) (refused_short c.args.number c.args.place (omega arith) (omega arith)) c.requires).1 }
