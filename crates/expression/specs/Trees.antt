-- Expressions as trees, with 01's size and depth. Definitions only.
use Rattle.std.specs.Prelude.{ℕ, ◌+◌, max}
use Rattle.complex.specs.declared.Complex.{Complex}
use Rattle.expression.specs.declared.InfixOperator.{InfixOperator}
use Rattle.expression.specs.declared.PrefixOperator.{PrefixOperator}
use Rattle.expression.specs.declared.ExpressionFunction.{ExpressionFunction}

pub data Leaf : Type 0 where
  number : Complex → Leaf
  pi : Leaf
  variable : ℕ → Leaf
  cell : (region index : ℕ) → Leaf

pub data Tree : Type 0 where
  leaf : Leaf → Tree
  function_call : ExpressionFunction → Tree → Tree
  prefixed : PrefixOperator → Tree → Tree
  infixed : InfixOperator → Tree → Tree → Tree

-- "Leaf size and depth are 1; a parent's size is 1 plus its children's, its depth 1 plus the greater"
unfoldable pub size : Tree → ℕ
size (leaf l) = 1
size (function_call f t) = 1 + size t
size (prefixed o t) = 1 + size t
size (infixed o l r) = 1 + (size l + size r)

unfoldable pub depth : Tree → ℕ
depth (leaf l) = 1
depth (function_call f t) = 1 + depth t
depth (prefixed o t) = 1 + depth t
depth (infixed o l r) = 1 + max (depth l) (depth r)
