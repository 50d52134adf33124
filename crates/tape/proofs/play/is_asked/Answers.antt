-- `is_asked` meets its contract: by opcode and sub. Assumes nothing.
use native.Mathlib.Omega.{arith}
use Rattle.tape.proofs.Ways.{asks_function, asks_prefix, asks_operator, asks_caret}
use Rattle.tape.proofs.play.is_asked.Goals as goal

pub returns-then-opcode-eq5 : goal.returns-then-opcode-eq5
returns-then-opcode-eq5 c = asks_function c.args.f c.if-opcode-eq5.true

pub returns-then-opcode-eq6 : goal.returns-then-opcode-eq6
returns-then-opcode-eq6 c = asks_prefix c.args.f c.if-opcode-eq6.true

pub returns-in-1 : goal.returns-in-1
returns-in-1 c = asks_operator c.args.f c.requires c.if-opcode-eq5.false c.if-opcode-eq6.false (omega arith) (omega arith)

pub returns-in_default : goal.returns-in_default
returns-in_default c = asks_caret c.args.f c.requires c.if-opcode-eq5.false c.if-opcode-eq6.false (λ e. omega (arith, e)) (λ e. omega (arith, e)) (λ e. omega (arith, e)) (λ e. omega (arith, e))

pub returns-in_default-2 : goal.returns-in_default-2
returns-in_default-2 c = asks_caret c.args.f c.requires c.if-opcode-eq5.false c.if-opcode-eq6.false (λ e. omega (arith, e)) (λ e. omega (arith, e)) (λ e. omega (arith, e)) (λ e. omega (arith, e))
