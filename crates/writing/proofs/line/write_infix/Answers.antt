-- `write_infix` meets its contract. Assumes nothing.
use native.Mathlib.Omega.{arith}
use Rattle.text.proofs.Putting.{put_then, put_length}
use Rattle.writing.proofs.LineTexts.{field_room, infix_text}
use Rattle.writing.proofs.line.write_infix.Goals as goal

pub write_letter-p-requires : goal.write_letter-p-requires
write_letter-p-requires c = omega (arith, c.requires)

pub write_letter-q-requires : goal.write_letter-q-requires
write_letter-q-requires c = omega (arith, c.requires, c.write_letter-p.ensures.place, put_length c.write_letter-p.ensures)

pub write_decimal_field-r-requires : goal.write_decimal_field-r-requires
write_decimal_field-r-requires c = omega (arith, c.requires, c.write_letter-p.ensures.place, put_length c.write_letter-p.ensures, c.write_letter-q.ensures.place, put_length c.write_letter-q.ensures, field_room c.args.left 9)

pub write_decimal_field-requires : goal.write_decimal_field-requires
write_decimal_field-requires c = omega (arith, c.requires, c.write_letter-p.ensures.place, put_length c.write_letter-p.ensures, c.write_letter-q.ensures.place, put_length c.write_letter-q.ensures, field_room c.args.left 9, c.write_decimal_field-r.ensures.place, put_length c.write_decimal_field-r.ensures, field_room c.args.right 10)

pub returns : goal.returns
returns c = λ o e. rw (infix_text o _ c.args.left c.args.right e) (put_then c.write_letter-p.ensures (put_then c.write_letter-q.ensures (put_then c.write_decimal_field-r.ensures c.write_decimal_field.ensures)))
