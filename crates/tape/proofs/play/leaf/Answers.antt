-- `leaf` meets its contract: by the opcode. Assumes nothing.
use mathlib.Core.Path.{refl, ap, ◌∙◌}
use Rattle.sheet.specs.Rows.{found}
use Rattle.evaluation.specs.Evaluating.{leaf_value}
use Rattle.tape.specs.Run.{value_of, seen_value}
use Rattle.tape.proofs.Ways.{seen_bound, as_number, as_pi, as_variable, as_cell, is_cell}
use Rattle.tape.proofs.play.leaf.Goals as goal

pub returns-in-1 : goal.returns-in-1
unfolding value_of leaf_value seen_value
returns-in-1 c = λ h x y. rw (as_number c.args.f c.in-1.is, ← c.from_bits.ensures, ← c.from_bits-in-1.ensures) refl

pub returns-in-2 : goal.returns-in-2
unfolding value_of leaf_value seen_value
returns-in-2 c = λ h x y. rw (as_pi c.args.f c.in-2.is) (ap found c.pi.ensures)

pub returns-in-3 : goal.returns-in-3
unfolding value_of leaf_value seen_value
returns-in-3 c = λ h x y. rw (as_variable c.args.f c.in-3.is) (c.variable.ensures h ∙ seen_bound _)

pub returns-in_default : goal.returns-in_default
unfolding value_of leaf_value seen_value
returns-in_default c = λ h x y. rw (as_cell c.args.f (is_cell c.args.f c.requires.0 c.requires.1 c.in_default.in_default-own.rest)) (c.cell.ensures h ∙ seen_bound _)
