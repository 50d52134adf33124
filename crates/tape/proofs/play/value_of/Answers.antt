-- `value_of` meets its contract: a leaf, what is asked, or arithmetic. Assumes nothing.
use mathlib.Core.Path.{sym, ap, ◌∙◌}
use native.Mathlib.Omega.{arith}
use Rattle.tape.specs.Run.{seen_value}
use Rattle.tape.proofs.Checking.{so}
use Rattle.tape.proofs.Ways.{lacks_missing}
use Rattle.tape.proofs.Marking.{leaf_unasked, unmarked_values, marked_values}
use borrow.Enum.Refused.{opened}
use Rattle.tape.proofs.play.value_of.Goals as goal

pub returns-then-opcode-lt5 : goal.returns-then-opcode-lt5
unfolding seen_value
returns-then-opcode-lt5 c = λ h. unmarked_values _ _ _ _ _ (c.leaf.ensures h _ _) (leaf_unasked c.args.f c.requires c.if-opcode-lt5.true)

pub returns-in_default : goal.returns-in_default
unfolding seen_value
returns-in_default c = λ h. let a = c.asked-asked.ensures h (so c.is_asked.ensures c.if-is_asked.true) in marked_values _ _ _ _ _ (lacks_missing c.asked-asked.result.value (opened c.in_default.in_default-own.keys2) ∙ ap seen_value a.0) a.1 c.note.ensures

pub returns-then-is_asked : goal.returns-then-is_asked
unfolding seen_value
returns-then-is_asked c = λ h. let a = c.asked-asked.ensures h (so c.is_asked.ensures c.if-is_asked.true) in marked_values _ _ _ _ _ (ap seen_value (sym c.in-Value.is ∙ a.0)) a.1 c.note.ensures

pub arithmetic-requires : goal.arithmetic-requires
unfolding seen_value
arithmetic-requires c = (omega (arith, c.if-opcode-lt5.false), so c.is_asked.ensures c.if-is_asked.false)

pub returns : goal.returns
unfolding seen_value
returns c = λ h. unmarked_values _ _ _ _ _ (ap seen_value (c.arithmetic.ensures _)) (so c.is_asked.ensures c.if-is_asked.false)
