-- The cycle of visiting meets its contracts: each return is a law of proofs/Visiting. Assumes nothing.
use mathlib.Core.Path.{sym, ◌∙◌}
use native.Mathlib.Omega.{arith}
use Rattle.writing.proofs.Visiting.{visit_none, visit_found, visit_entered, visits_nothing, visits_one, visits_two}
use Rattle.writing.proofs.order.+visiting.Goals as goal

pub visit-returns-then-below-node : goal.visit-returns-then-below-node
visit-returns-then-below-node t c = λ m n h b l. visit_none h b l c.if-below-node.true

pub visit-returns-then-is_listed : goal.visit-returns-then-is_listed
visit-returns-then-is_listed t c = λ m n h b l. visit_found h b l c.if-below-node.false c.is_listed.ensures c.if-is_listed.true

pub visit-visit_operands-last-requires : goal.visit-visit_operands-last-requires
visit-visit_operands-last-requires t c = (omega (arith, c.if-below-node.false), tt)

pub visit-returns : goal.visit-returns
visit-returns t c = λ m n h b l. visit_entered h b l c.if-below-node.false c.is_listed.ensures c.if-is_listed.false (λ o. c.visit_operands-last.ensures m n h o l) c.enter.ensures

pub visit_operands-visit-requires : goal.visit_operands-visit-requires
visit_operands-visit-requires t c = (omega arith, tt)

pub visit_operands-visit-last-requires : goal.visit_operands-visit-last-requires
visit_operands-visit-last-requires t c = (omega arith, tt)

pub visit_operands-visit-requires-in-Two : goal.visit_operands-visit-requires-in-Two
visit_operands-visit-requires-in-Two t c = (omega arith, tt)

pub visit_operands-returns-in-Nothing : goal.visit_operands-returns-in-Nothing
visit_operands-returns-in-Nothing t c = λ m n h o l. visits_nothing (sym c.operands_at.ensures ∙ c.in-Nothing.is) l

pub visit_operands-returns-in-One : goal.visit_operands-returns-in-One
visit_operands-returns-in-One t c = λ m n h o l. visits_one (sym c.operands_at.ensures ∙ c.in-One.is) (c.visit.ensures m n h (λ q. omega (arith, q, o)) l)

pub visit_operands-returns-in-Two : goal.visit_operands-returns-in-Two
visit_operands-returns-in-Two t c = λ m n h o l. let v = c.visit-last.ensures m n h (λ q. omega (arith, q, o)) l in visits_two (sym c.operands_at.ensures ∙ c.in-Two.is) v (c.visit-in-Two.ensures m n h (λ q. omega (arith, q, o)) v.listed)
