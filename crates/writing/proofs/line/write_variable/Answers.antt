-- `write_variable` meets its contract. Assumes nothing.
use native.Mathlib.Omega.{arith}
use Rattle.text.proofs.Putting.{put_then, put_length}
use Rattle.writing.proofs.LineTexts.{variable_text, variable_length, field_room}
use Rattle.writing.proofs.line.write_variable.Goals as goal

pub write_letter-p-requires : goal.write_letter-p-requires
write_letter-p-requires c = omega (arith, c.requires, variable_length c.args.number)

pub write_decimal_field-requires : goal.write_decimal_field-requires
write_decimal_field-requires c = omega (arith, c.requires, variable_length c.args.number, c.write_letter-p.ensures.place, put_length c.write_letter-p.ensures, field_room c.args.number 10)

pub returns : goal.returns
returns c = rw (variable_text c.args.number) (put_then c.write_letter-p.ensures c.write_decimal_field.ensures)
