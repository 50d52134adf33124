-- The proof of a cycle of calls. Assumes nothing.
use Rattle.evaluation.proofs.Settled.{handed_on, is_settled, lack_settled, value_settled, last_lacks, no_operands, one_operand, left_operand, both_operands}
use native.Mathlib.Omega.{arith}
use mathlib.Core.Path.{sym, ◌∙◌}
use Rattle.expression.proofs.Under.{within_one, within_two}
use Rattle.evaluation.proofs.settling.+settling.Goals as goal

pub settle-returns-then-below-node : goal.settle-returns-then-below-node
settle-returns-then-below-node t c = λ n o l b h. absurd (omega (arith, b, c.if-below-node.true))

pub settle-returns-then-is_number : goal.settle-returns-then-is_number
settle-returns-then-is_number t c = λ n o l b h. is_settled _ o l c.is_number.ensures c.if-is_number.true

pub settle-settle_operands-requires : goal.settle-settle_operands-requires
settle-settle_operands-requires t c = (omega (arith, c.if-below-node.false), tt)

pub settle-returns-in_err-settle_operands : goal.settle-returns-in_err-settle_operands
settle-returns-in_err-settle_operands t c = λ n o l b h. rw (handed_on _ c.from_residual.ensures.1) (lack_settled _ l (c.settle_operands.ensures n o l h) c.in_err-settle_operands.was)

pub settle-returns-then-finish : goal.settle-returns-then-finish
settle-returns-then-finish t c = λ n o l b h. let s = c.settle_operands.ensures n o l h in value_settled _ l s (c.finish.ensures n s.settling.ordered l (s.done c.in_ok-settle_operands.was) h) c.if-finish.true

pub settle-returns-else-finish : goal.settle-returns-else-finish
settle-returns-else-finish t c = λ n o l b h. let s = c.settle_operands.ensures n o l h in last_lacks _ l s (c.finish.ensures n s.settling.ordered l (s.done c.in_ok-settle_operands.was) h) c.if-finish.false

pub settle_operands-settle-requires : goal.settle_operands-settle-requires
settle_operands-settle-requires t c = (omega arith, tt)

pub settle_operands-settle-requires-in-Two : goal.settle_operands-settle-requires-in-Two
settle_operands-settle-requires-in-Two t c = (omega arith, tt)

pub settle_operands-settle-requires-in-Two-2 : goal.settle_operands-settle-requires-in-Two-2
settle_operands-settle-requires-in-Two-2 t c = (omega arith, tt)

pub settle_operands-returns-in_err-settle-in-Two : goal.settle_operands-returns-in_err-settle-in-Two
settle_operands-returns-in_err-settle-in-Two t c = λ n o l h. let w = within_two _ _ _ _ (sym c.operands_at-operands.ensures ∙ c.in-Two.is) (o.within _ l) in
    rw (handed_on _ c.from_residual.ensures.1) (left_operand _ o l c.operands_at-operands.ensures (c.settle-in-Two.ensures n o (omega (arith, w.0, l)) w.0 h) (omega (arith, w.0, l)) c.in-Two.is c.in_err-settle-in-Two.was)

pub settle_operands-returns-in-Nothing : goal.settle_operands-returns-in-Nothing
settle_operands-returns-in-Nothing t c = λ n o l h. no_operands _ o l c.operands_at-operands.ensures c.in-Nothing.is

pub settle_operands-returns-in-One : goal.settle_operands-returns-in-One
settle_operands-returns-in-One t c = λ n o l h. let w = within_one _ _ _ (sym c.operands_at-operands.ensures ∙ c.in-One.is) (o.within _ l) in one_operand _ o l c.operands_at-operands.ensures (c.settle.ensures n o (omega (arith, w, l)) w h) (omega (arith, w, l)) c.in-One.is

pub settle_operands-returns-in_ok-settle-in-Two : goal.settle_operands-returns-in_ok-settle-in-Two
settle_operands-returns-in_ok-settle-in-Two t c = λ n o l h. let w = within_two _ _ _ _ (sym c.operands_at-operands.ensures ∙ c.in-Two.is) (o.within _ l) in let s = c.settle-in-Two.ensures n o (omega (arith, w.0, l)) w.0 h in both_operands _ o l c.operands_at-operands.ensures s (omega (arith, w.0, l)) c.in-Two.is c.in_ok-settle-in-Two.was (omega (arith, w.1, l)) (c.settle-in-Two-2.ensures n s.settling.ordered (omega (arith, w.1, l)) w.1 h)
