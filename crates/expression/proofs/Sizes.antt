-- What holds of every tree's size and depth. Assumes nothing.
use mathlib.Core.Path.{◌≡◌, refl, ap}
use Prim.Native.Nat.{◌+◌, max, ◌≤◌}
use native.Mathlib.Omega.{arith}
use Rattle.expression.specs.declared.InfixOperator.{InfixOperator}
use Rattle.expression.specs.declared.PrefixOperator.{PrefixOperator}
use Rattle.expression.specs.declared.ExpressionFunction.{ExpressionFunction}
use Rattle.expression.specs.Trees.{Tree, leaf, function_call, prefixed, infixed, size, depth}
use Rattle.expression.specs.Nodes.{measure}
use Rattle.expression.specs.Limits.{Limited}

-- as one measure
pub size_is : (t : Tree) → size t ≡ measure ◌+◌ t
unfolding size measure
size_is (leaf l) = refl
size_is (function_call f t) = ap (λ k. 1 + k) (size_is t)
size_is (prefixed o t) = ap (λ k. 1 + k) (size_is t)
size_is (infixed o l r) = let a = size_is l in let b = size_is r in λ i. 1 + (a i + b i)

pub depth_is : (t : Tree) → depth t ≡ measure max t
unfolding depth measure
depth_is (leaf l) = refl
depth_is (function_call f t) = ap (λ k. 1 + k) (depth_is t)
depth_is (prefixed o t) = ap (λ k. 1 + k) (depth_is t)
depth_is (infixed o l r) = let a = depth_is l in let b = depth_is r in λ i. 1 + max (a i) (b i)

pub depth_positive : (t : Tree) → 1 ≤ depth t
unfolding depth
depth_positive (leaf l) = omega arith
depth_positive (function_call f t) = omega arith
depth_positive (prefixed o t) = omega arith
depth_positive (infixed o l r) = omega arith

-- size is at least depth
pub depth_at_most_size : (t : Tree) → depth t ≤ size t
unfolding size depth
depth_at_most_size (leaf l) = omega arith
depth_at_most_size (function_call f t) = omega (arith, depth_at_most_size t)
depth_at_most_size (prefixed o t) = omega (arith, depth_at_most_size t)
depth_at_most_size (infixed o l r) = omega (arith, depth_at_most_size l, depth_at_most_size r)

-- ---- a tree within the limits has children within the limits

pub limited_function : (f : ExpressionFunction) (t : Tree) → Limited (function_call f t) → Limited t
unfolding size depth
limited_function f t h = record { sized = omega (arith, h.sized); shallow = omega (arith, h.shallow) }

pub limited_prefix : (o : PrefixOperator) (t : Tree) → Limited (prefixed o t) → Limited t
unfolding size depth
limited_prefix o t h = record { sized = omega (arith, h.sized); shallow = omega (arith, h.shallow) }

pub limited_left : (o : InfixOperator) (l r : Tree) → Limited (infixed o l r) → Limited l
unfolding size depth
limited_left o l r h = record { sized = omega (arith, h.sized); shallow = omega (arith, h.shallow) }

pub limited_right : (o : InfixOperator) (l r : Tree) → Limited (infixed o l r) → Limited r
unfolding size depth
limited_right o l r h = record { sized = omega (arith, h.sized); shallow = omega (arith, h.shallow) }
