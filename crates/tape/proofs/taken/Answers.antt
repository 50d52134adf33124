-- `taken` meets its contract: by the opcode. Assumes nothing.
use native.Mathlib.Omega.{arith}
use Rattle.tape.proofs.Ways.{takes_none, takes_one, takes_two, takes_other}
use Rattle.tape.proofs.taken.Goals as goal

pub returns-in-1 : goal.returns-in-1
returns-in-1 c = (takes_none c.args.f (omega arith) (omega arith), omega arith)

pub returns-in-5 : goal.returns-in-5
returns-in-5 c = (takes_one c.args.f (omega arith) (omega arith), omega arith)

pub returns-in_default : goal.returns-in_default
returns-in_default c = (takes_other c.args.f (omega arith), omega arith)

pub returns-in_default-2 : goal.returns-in_default-2
returns-in_default-2 c = (takes_two c.args.f (omega arith), omega arith)
