-- `asked` meets its contract: a function, or ^. Assumes nothing.
use Rattle.tape.specs.Run.{value_of, used_at}
use Rattle.tape.proofs.Ways.{as_function, as_operator, not_prefix}
use Rattle.tape.proofs.play.asked.Goals as goal

pub returns-then-opcode-eq5 : goal.returns-then-opcode-eq5
unfolding value_of used_at
returns-then-opcode-eq5 c = λ h a. rw (as_function c.args.f c.if-opcode-eq5.true, ← c.from_code.ensures) (c.calculate_function.ensures h)

pub returns : goal.returns
unfolding value_of used_at
returns c = λ h a. rw (as_operator c.args.f c.requires c.if-opcode-eq5.false (not_prefix c.args.f a), ← c.from_code-2.ensures) (c.calculate_infix.ensures h)
