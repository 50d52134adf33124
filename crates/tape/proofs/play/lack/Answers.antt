-- `lack` meets its contract: a leaf that is not bound, or what was asked. Assumes nothing.
use native.Mathlib.Omega.{arith}
use Rattle.tape.proofs.Ways.{leaf_missing, operation_missing}
use Rattle.tape.proofs.play.lack.Goals as goal

pub returns-then-opcode-lt5 : goal.returns-then-opcode-lt5
returns-then-opcode-lt5 c = λ h m. leaf_missing c.args.f _ _ _ m c.requires c.if-opcode-lt5.true

pub returns : goal.returns
returns c = λ h m. (c.asked-asked.ensures h (operation_missing c.args.f _ _ _ m (omega (arith, c.if-opcode-lt5.false)))).0
