-- `write_function` meets its contract. Assumes nothing.
use native.Mathlib.Omega.{arith}
use Rattle.expression.proofs.Numbering.{function_known}
use Rattle.spelling.proofs.write_function.Goals as goal

pub write_name-requires : goal.write_name-requires
write_name-requires c = let l = function_known c.args.f in rw c.from.ensures (omega (arith, l.least), omega (arith, l.most), c.requires)

pub returns : goal.returns
returns c = rw c.from.ensures at c.write_name.ensures
