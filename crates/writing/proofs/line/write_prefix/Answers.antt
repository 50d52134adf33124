-- `write_prefix` meets its contract. Assumes nothing.
use native.Mathlib.Omega.{arith}
use Rattle.text.proofs.Putting.{put_then, put_length}
use Rattle.writing.proofs.LineTexts.{field_room, prefix_text}
use Rattle.writing.proofs.line.write_prefix.Goals as goal

pub write_letter-p-requires : goal.write_letter-p-requires
write_letter-p-requires c = omega (arith, c.requires)

pub write_letter-q-requires : goal.write_letter-q-requires
write_letter-q-requires c = omega (arith, c.requires, c.write_letter-p.ensures.place, put_length c.write_letter-p.ensures)

pub write_decimal_field-requires : goal.write_decimal_field-requires
write_decimal_field-requires c = omega (arith, c.requires, c.write_letter-p.ensures.place, put_length c.write_letter-p.ensures, c.write_letter-q.ensures.place, put_length c.write_letter-q.ensures, field_room c.args.child 10)

pub returns : goal.returns
returns c = λ o e. rw (prefix_text o _ c.args.child e) (put_then c.write_letter-p.ensures (put_then c.write_letter-q.ensures c.write_decimal_field.ensures))
