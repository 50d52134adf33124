-- `write_piece` meets its contract. Assumes nothing.
use native.Mathlib.Omega.{arith}
use Rattle.console.proofs.Lines.{decimal_short}
use Rattle.sentences.proofs.write_piece.Goals as goal

pub write_decimal-requires : goal.write_decimal-requires
write_decimal-requires c = omega (arith, c.requires, decimal_short c.args.first (omega arith))

pub returns-in-37 : goal.returns-in-37
returns-in-37 c = (rw c.in-37.is c.write_decimal.ensures, omega (arith, c.write_decimal.ensures.place, decimal_short c.args.first (omega arith)))

pub write_decimal-requires-in-38 : goal.write_decimal-requires-in-38
write_decimal-requires-in-38 c = omega (arith, c.requires, decimal_short c.args.second (omega arith))

pub returns-in-38 : goal.returns-in-38
returns-in-38 c = (rw c.in-38.is c.write_decimal-in-38.ensures, omega (arith, c.write_decimal-in-38.ensures.place, decimal_short c.args.second (omega arith)))
