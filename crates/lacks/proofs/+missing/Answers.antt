-- The proof of a cycle of calls. Assumes nothing.
use Rattle.lacks.proofs.Naming.{own_first, below_names, nothing_first, no_operands, one_operand, left_operand, both_operands}
use native.Mathlib.Omega.{arith}
use mathlib.Core.Path.{sym, ◌∙◌}
use Rattle.expression.proofs.Under.{within_one, within_two}
use Rattle.lacks.proofs.+missing.Goals as goal

pub first_missing-returns-then-below-node : goal.first_missing-returns-then-below-node
first_missing-returns-then-below-node t c = λ n o l b h. absurd (omega (arith, b, c.if-below-node.true))

pub first_missing-returns-in-Some : goal.first_missing-returns-in-Some
first_missing-returns-in-Some t c = λ n o l b h. own_first _ o l (c.missing_at.ensures h) c.in-Some.is

pub first_missing-missing_below-requires : goal.first_missing-missing_below-requires
first_missing-missing_below-requires t c = (omega (arith, c.if-below-node.false), tt)

pub first_missing-returns-in-Some-missing_below : goal.first_missing-returns-in-Some-missing_below
first_missing-returns-in-Some-missing_below t c = λ n o l b h. below_names _ o l (c.missing_at.ensures h) c.in_default.is (c.missing_below.ensures n o l h) c.in-Some-missing_below.is

pub first_missing-returns : goal.first_missing-returns
first_missing-returns t c = λ n o l b h. nothing_first _ o l (c.missing_at.ensures h) c.in_default.is (c.missing_below.ensures n o l h) c.in_default-missing_below.is (rw c.zero.ensures at c.put_number.ensures.store_after) (rw c.zero.ensures at c.put_number.ensures.fitting)

pub missing_below-first_missing-requires : goal.missing_below-first_missing-requires
missing_below-first_missing-requires t c = (omega arith, tt)

pub missing_below-returns-in-Some : goal.missing_below-returns-in-Some
missing_below-returns-in-Some t c = λ n o l h. let w = within_two _ _ _ _ (sym c.operands_at-operands.ensures ∙ c.in-Two.is) (o.within _ l) in left_operand _ o l c.operands_at-operands.ensures (c.first_missing-in-Two.ensures n o (omega (arith, w.0, l)) w.0 h) c.in-Two.is c.in-Some.is

pub missing_below-first_missing-requires-in-Two : goal.missing_below-first_missing-requires-in-Two
missing_below-first_missing-requires-in-Two t c = (omega arith, tt)

pub missing_below-first_missing-requires-in-Two-2 : goal.missing_below-first_missing-requires-in-Two-2
missing_below-first_missing-requires-in-Two-2 t c = (omega arith, tt)

pub missing_below-returns-in-Nothing : goal.missing_below-returns-in-Nothing
missing_below-returns-in-Nothing t c = λ n o l h. no_operands _ o l c.operands_at-operands.ensures c.in-Nothing.is

pub missing_below-returns-in-One : goal.missing_below-returns-in-One
missing_below-returns-in-One t c = λ n o l h. let w = within_one _ _ _ (sym c.operands_at-operands.ensures ∙ c.in-One.is) (o.within _ l) in one_operand _ o l c.operands_at-operands.ensures (c.first_missing.ensures n o (omega (arith, w, l)) w h) c.in-One.is

pub missing_below-returns-in_default : goal.missing_below-returns-in_default
missing_below-returns-in_default t c = λ n o l h. let w = within_two _ _ _ _ (sym c.operands_at-operands.ensures ∙ c.in-Two.is) (o.within _ l) in let s = c.first_missing-in-Two.ensures n o (omega (arith, w.0, l)) w.0 h in both_operands _ o l c.operands_at-operands.ensures s c.in-Two.is c.in_default.is (omega (arith, w.1, l)) (c.first_missing-in-Two-2.ensures n s.settling.ordered (omega (arith, w.1, l)) w.1 h)
