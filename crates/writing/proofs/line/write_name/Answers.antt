-- `write_name` meets its contract: the name, then the tab. Assumes nothing.
use mathlib.Core.List.{[], ◌∷◌}
use native.Mathlib.Omega.{arith}
use lib.ListN.{length-append}
use Rattle.spelling.specs.Names.{function_name}
use Rattle.text.proofs.Putting.{put_then, put_length}
use Rattle.writing.proofs.line.write_name.Goals as goal

pub write_function-next-requires : goal.write_function-next-requires
write_function-next-requires c = omega (arith, c.requires, length-append (function_name c.args.f) (9 ∷ []))

pub write_byte-requires : goal.write_byte-requires
write_byte-requires c = omega (arith, c.requires, length-append (function_name c.args.f) (9 ∷ []), c.write_function-next.ensures.place, put_length c.write_function-next.ensures)

pub returns : goal.returns
returns c = put_then c.write_function-next.ensures c.write_byte.ensures
