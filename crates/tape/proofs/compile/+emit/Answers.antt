-- `emit` meets its contract: each return is a law of proofs/Emitting. The measure is `below`. Assumes nothing.
use mathlib.Core.Path.{◌∙◌}
use native.Mathlib.Omega.{arith}
use Rattle.tape.proofs.Emitting.{one_inside, two_inside, emits_none, emits_one, emits_two}
use Rattle.tape.proofs.compile.+emit.Goals as goal

pub returns-then-below-node : goal.returns-then-below-node
returns-then-below-node t c = λ n h l b room. absurd (omega (arith, b, c.if-below-node.true))

pub emit-end-requires : goal.emit-end-requires
emit-end-requires t c = (omega (arith, c.if-below-node.false), tt)

pub emit-middle-requires : goal.emit-middle-requires
emit-middle-requires t c = (omega (arith, c.if-below-node.false), tt)

pub emit-end-requires-in-Two : goal.emit-end-requires-in-Two
emit-end-requires-in-Two t c = (omega (arith, c.if-below-node.false), tt)

pub shape_of-out-in-Nothing : goal.shape_of-out-in-Nothing
shape_of-out-in-Nothing t c = c.place_step.auto.out

pub returns-in-Nothing : goal.returns-in-Nothing
returns-in-Nothing t c = λ n h l b room. emits_none h l c.expression_at-e.ensures c.operands_of-operands.ensures c.step_for.ensures c.in-Nothing.is c.place_step.ensures room

pub shape_of-out-in-One : goal.shape_of-out-in-One
shape_of-out-in-One t c = c.place_step-in-One.auto.out ∙ c.emit-end.auto.out

pub returns-in-One : goal.returns-in-One
returns-in-One t c = λ n h l b room. let w = one_inside h l c.expression_at-e.ensures c.operands_of-operands.ensures c.in-One.is in emits_one h l c.expression_at-e.ensures c.operands_of-operands.ensures c.step_for-in-One.ensures c.in-One.is (c.emit-end.ensures n h (omega (arith, w, l)) w) c.place_step-in-One.ensures room

pub shape_of-out-in-Two : goal.shape_of-out-in-Two
shape_of-out-in-Two t c = c.place_step-in-Two.auto.out ∙ c.emit-end-in-Two.auto.out ∙ c.emit-middle.auto.out

pub returns-in-Two : goal.returns-in-Two
returns-in-Two t c = λ n h l b room. let w = two_inside h l c.expression_at-e.ensures c.operands_of-operands.ensures c.in-Two.is in emits_two h l c.expression_at-e.ensures c.operands_of-operands.ensures c.step_for-in-Two.ensures c.in-Two.is (c.emit-middle.ensures n h (omega (arith, w.0, l)) w.0) (c.emit-end-in-Two.ensures n h (omega (arith, w.1, l)) w.1) c.place_step-in-Two.ensures room
