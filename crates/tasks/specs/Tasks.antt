-- 01's "Simplifying", as far as limit and tree decide alone: which limits are allowed, and what is done at a tree for
-- which nothing is kept. Definitions only.
use Rattle.std.specs.Prelude.{ℕ, zero, suc, Bool, leb}
use Rattle.expression.specs.declared.InfixOperator.{InfixOperator}
use Rattle.expression.specs.declared.PrefixOperator.{PrefixOperator}
use Rattle.expression.specs.declared.ExpressionFunction.{ExpressionFunction}
use Rattle.expression.specs.Trees.{Tree, Leaf, number, pi, variable, cell, leaf, function_call, prefixed, infixed}

-- "5 BAD_LIMIT: limit above 10"
unfoldable pub is_allowed : (limit : ℕ) → Bool
is_allowed limit = leb limit 10

-- what is done at a tree for which nothing is kept
pub data Task : Type 0 where
  number_of_pi : Task  -- pi's number is given
  itself : Tree → Task  -- this tree is given as it is
  calling : ExpressionFunction → Tree → Task  -- the operation runs on these operands
  prefixing : PrefixOperator → Tree → Task
  infixing : InfixOperator → Tree → Tree → Task

-- "pi gives its number", "leaves give themselves"
unfoldable pub leaf_task : Leaf → Task
leaf_task (number z) = itself (leaf (number z))
leaf_task pi = number_of_pi
leaf_task (variable v) = itself (leaf (variable v))
leaf_task (cell region index) = itself (leaf (cell region index))

-- "pi gives its number (400921FB54442D18), even at limit 0; limit 0 gives the node; leaves give themselves. Otherwise the operation runs"
unfoldable pub task_at : (limit : ℕ) → Tree → Task
task_at zero (leaf l) = leaf_task l
task_at zero (function_call f t) = itself (function_call f t)
task_at zero (prefixed o t) = itself (prefixed o t)
task_at zero (infixed o l r) = itself (infixed o l r)
task_at (suc k) (leaf l) = leaf_task l
task_at (suc k) (function_call f t) = calling f t
task_at (suc k) (prefixed o t) = prefixing o t
task_at (suc k) (infixed o l r) = infixing o l r
