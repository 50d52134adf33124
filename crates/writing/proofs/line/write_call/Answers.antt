-- `write_call` meets its contract. Assumes nothing.
use native.Mathlib.Omega.{arith}
use Rattle.text.proofs.Putting.{put_then, put_length}
use Rattle.writing.proofs.LineTexts.{call_text, call_length, name_room, field_room}
use Rattle.writing.proofs.line.write_call.Goals as goal

pub write_letter-p-requires : goal.write_letter-p-requires
write_letter-p-requires c = omega (arith, c.requires, call_length c.args.f c.args.child)

pub write_name-q-requires : goal.write_name-q-requires
write_name-q-requires c = omega (arith, c.requires, call_length c.args.f c.args.child, c.write_letter-p.ensures.place, put_length c.write_letter-p.ensures, name_room c.args.f)

pub write_decimal_field-requires : goal.write_decimal_field-requires
write_decimal_field-requires c = omega (arith, c.requires, call_length c.args.f c.args.child, c.write_letter-p.ensures.place, put_length c.write_letter-p.ensures, name_room c.args.f, c.write_name-q.ensures.place, put_length c.write_name-q.ensures, field_room c.args.child 10)

pub returns : goal.returns
returns c = rw (call_text c.args.f c.args.child) (put_then c.write_letter-p.ensures (put_then c.write_name-q.ensures c.write_decimal_field.ensures))
