-- `substitute_node` meets its contract: each return is a law of proofs/Replacing or Settling. The measure is `below`. Assumes nothing.
use native.Mathlib.Omega.{arith}
use Rattle.substitution.proofs.Settling.{known_replaced}
use Rattle.substitution.proofs.Replacing.{replaced_by, one_inside, two_inside, leaf_replaced, one_refused, one_replaced, left_refused, right_refused, two_replaced}
use Rattle.substitution.proofs.+substitute_node.Goals as goal

pub returns-then-below-node : goal.returns-then-below-node
returns-then-below-node t c = λ given nodes k o b. absurd (omega (arith, b, c.if-below-node.true))

pub returns-in-Some : goal.returns-in-Some
returns-in-Some t c = λ given nodes k o b. known_replaced k o c.recalled.ensures c.in-Some.is

pub returns-in-Nothing : goal.returns-in-Nothing
returns-in-Nothing t c = λ given nodes k o b. leaf_replaced k o c.expression_at-e.ensures c.operands_of.ensures c.in-Nothing.is c.put_in.ensures

pub returns-in_err-last-in-One : goal.returns-in_err-last-in-One
returns-in_err-last-in-One t c =
    λ given nodes k o b.
    let w = one_inside k o c.expression_at-e.ensures c.operands_of.ensures c.in-One.is in
    one_refused k o c.expression_at-e.ensures c.operands_of.ensures c.in-One.is (c.substitute_node.ensures given nodes k (omega (arith, w, o)) w) c.in_err-last-in-One.was c.from_residual.ensures.0

pub returns-in_err-left-in-Two : goal.returns-in_err-left-in-Two
returns-in_err-left-in-Two t c =
    λ given nodes k o b.
    let w = two_inside k o c.expression_at-e.ensures c.operands_of.ensures c.in-Two.is in
    left_refused k o c.expression_at-e.ensures c.operands_of.ensures c.in-Two.is (c.substitute_node-in-Two.ensures given nodes k (omega (arith, w.0, o)) w.0) c.in_err-left-in-Two.was c.from_residual-in_err-left-in-Two.ensures.0

pub returns-in_err-last-in-Two : goal.returns-in_err-last-in-Two
returns-in_err-last-in-Two t c =
    λ given nodes k o b.
    let w = two_inside k o c.expression_at-e.ensures c.operands_of.ensures c.in-Two.is in
    right_refused k o c.expression_at-e.ensures c.operands_of.ensures c.in-Two.is (replaced_by (c.substitute_node-in-Two.ensures given nodes k (omega (arith, w.0, o)) w.0) c.in_ok-left-in-Two.was) (λ k'. c.substitute_node-in-Two-2.ensures given nodes k' (omega (arith, w.1, o)) w.1) c.in_err-last-in-Two.was c.from_residual-in_err-last-in-Two.ensures.0

pub returns-in_ok-last-in-One : goal.returns-in_ok-last-in-One
returns-in_ok-last-in-One t c =
    λ given nodes k o b.
    let w = one_inside k o c.expression_at-e.ensures c.operands_of.ensures c.in-One.is in
    one_replaced k o c.expression_at-e.ensures c.operands_of.ensures c.in-One.is (replaced_by (c.substitute_node.ensures given nodes k (omega (arith, w, o)) w) c.in_ok-last-in-One.was) c.rebuild.ensures

pub returns-in_ok-last-in-Two : goal.returns-in_ok-last-in-Two
returns-in_ok-last-in-Two t c =
    λ given nodes k o b.
    let w = two_inside k o c.expression_at-e.ensures c.operands_of.ensures c.in-Two.is in
    two_replaced k o c.expression_at-e.ensures c.operands_of.ensures c.in-Two.is (replaced_by (c.substitute_node-in-Two.ensures given nodes k (omega (arith, w.0, o)) w.0) c.in_ok-left-in-Two.was) (λ k'. replaced_by (c.substitute_node-in-Two-2.ensures given nodes k' (omega (arith, w.1, o)) w.1) c.in_ok-last-in-Two.was) c.rebuild-in-Two.ensures
