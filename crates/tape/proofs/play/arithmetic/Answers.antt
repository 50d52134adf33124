-- `arithmetic` meets its contract: by the sub. Assumes nothing.
use mathlib.Core.Path.{ap}
use Rattle.evaluation.specs.declared.Evaluation.{Evaluation}
use Rattle.tape.specs.Run.{value_of}
use Rattle.tape.proofs.Ways.{as_prefix, not_function, value_plus, value_minus, value_times, value_over}
use Rattle.tape.proofs.play.arithmetic.Goals as goal

pub returns-then-opcode-eq6 : goal.returns-then-opcode-eq6
unfolding value_of
returns-then-opcode-eq6 c = λ rows. rw (as_prefix c.args.f c.if-opcode-eq6.true, ← c.from_code.ensures) (ap Evaluation.Value c.calculate_prefix.ensures)

pub returns-then-code-eq1 : goal.returns-then-code-eq1
unfolding value_of
returns-then-code-eq1 c = λ rows. value_plus c.args.f c.requires.0 (not_function c.args.f c.requires.1) c.if-opcode-eq6.false rows _ _ c.if-code-eq1.true c.add.ensures

pub returns-then-code-eq2 : goal.returns-then-code-eq2
unfolding value_of
returns-then-code-eq2 c = λ rows. value_minus c.args.f c.requires.0 (not_function c.args.f c.requires.1) c.if-opcode-eq6.false rows _ _ c.if-code-eq2.true c.sub.ensures

pub returns-then-code-eq3 : goal.returns-then-code-eq3
unfolding value_of
returns-then-code-eq3 c = λ rows. value_times c.args.f c.requires.0 (not_function c.args.f c.requires.1) c.if-opcode-eq6.false rows _ _ c.if-code-eq3.true c.mul.ensures

pub returns : goal.returns
unfolding value_of
returns c = λ rows. value_over c.args.f c.requires.0 (not_function c.args.f c.requires.1) c.if-opcode-eq6.false rows _ _ c.requires.1 c.if-code-eq1.false c.if-code-eq2.false c.if-code-eq3.false c.div.ensures
