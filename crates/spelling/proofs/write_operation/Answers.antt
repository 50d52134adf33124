-- `write_operation` meets its contract. Assumes nothing.
use native.Mathlib.Omega.{arith}
use Rattle.expression.proofs.Numbering.{operation_known}
use Rattle.spelling.proofs.write_operation.Goals as goal

pub write_name-requires : goal.write_name-requires
write_name-requires c = let l = operation_known c.args.o in rw c.from.ensures (omega (arith, l.least), omega (arith, l.most), c.requires)

pub returns : goal.returns
returns c = rw c.from.ensures at c.write_name.ensures
