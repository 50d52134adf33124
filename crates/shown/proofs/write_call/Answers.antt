-- `write_call` meets its contract: a word, the name and the end of the line. Assumes nothing.
use native.Mathlib.Omega.{arith}
use Rattle.text.proofs.Putting.{put_length}
use Rattle.console.proofs.Lines.{function_short}
use Rattle.shown.proofs.Pieces.{name_goes, call_told}
use Rattle.shown.proofs.write_call.Goals as goal

pub write_function-q-requires : goal.write_function-q-requires
write_function-q-requires c = omega (arith, c.requires, c.write_bytes-p.ensures.place, put_length c.write_bytes-p.ensures, function_short c.args.f)

pub write_byte-requires : goal.write_byte-requires
write_byte-requires c = omega (arith, c.requires, c.write_bytes-p.ensures.place, put_length c.write_bytes-p.ensures, name_goes c.args.f c.write_function-q.ensures, put_length c.write_function-q.ensures)

pub returns : goal.returns
returns c = call_told _ c.write_bytes-p.ensures c.write_function-q.ensures c.write_byte.ensures
