-- `write_cell` meets its contract. Assumes nothing.
use native.Mathlib.Omega.{arith}
use Rattle.text.proofs.Putting.{put_then, put_length}
use Rattle.writing.proofs.LineTexts.{cell_text, cell_length, field_room}
use Rattle.writing.proofs.line.write_cell.Goals as goal

pub write_letter-p-requires : goal.write_letter-p-requires
write_letter-p-requires c = omega (arith, c.requires, cell_length c.args.region c.args.index)

pub write_decimal_field-q-requires : goal.write_decimal_field-q-requires
write_decimal_field-q-requires c = omega (arith, c.requires, cell_length c.args.region c.args.index, c.write_letter-p.ensures.place, put_length c.write_letter-p.ensures, field_room c.args.region 9)

pub write_decimal_field-requires : goal.write_decimal_field-requires
write_decimal_field-requires c = omega (arith, c.requires, cell_length c.args.region c.args.index, c.write_letter-p.ensures.place, put_length c.write_letter-p.ensures, field_room c.args.region 9, c.write_decimal_field-q.ensures.place, put_length c.write_decimal_field-q.ensures, field_room c.args.index 10)

pub returns : goal.returns
returns c = rw (cell_text c.args.region c.args.index) (put_then c.write_letter-p.ensures (put_then c.write_decimal_field-q.ensures c.write_decimal_field.ensures))
