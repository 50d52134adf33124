-- Each return of `task_at` is the task of its node, and that task is the definition's. Assumes nothing.
use mathlib.Core.Path.{◌≡◌, refl, ap, ◌∙◌}
use mathlib.Core.List.{[], ◌∷◌}
use Prim.Native.Nat.{ℕ, zero, suc}
use native.Mathlib.Omega.{arith}
use types.Run.{OneOf, miss}
use denote.Enum.Declared.{tag_of}
use Rattle.expression.specs.declared.InfixOperator.{InfixOperator}
use Rattle.expression.specs.declared.PrefixOperator.{PrefixOperator}
use Rattle.expression.specs.declared.ExpressionFunction.{ExpressionFunction}
use Rattle.expression.specs.Trees.{Leaf, number, pi, variable, cell, leaf}
use Rattle.expression.specs.declared.node.Expression.{Expression}
use Rattle.expression.specs.contracts.node.Expression.{the_type}
use Rattle.expression.specs.Nodes.{grown}
use Rattle.tasks.specs.declared.Task.{Task}
use Rattle.tasks.specs.Tasks.{itself, leaf_task, task_at}
use Rattle.tasks.specs.Deciding.{node_task, Decides}

-- ---- the task of a node

-- an operation, above limit 0
pub call_task : (limit node : ℕ) (f : ExpressionFunction) (a : ℕ) → (limit ≡ 0 → ⊥) → Task.FunctionCall f a ≡ node_task limit node (Expression.FunctionCall f a)
unfolding node_task
call_task zero node f a z = absurd (z refl)
call_task (suc k) node f a z = refl

pub prefix_task : (limit node : ℕ) (o : PrefixOperator) (a : ℕ) → (limit ≡ 0 → ⊥) → Task.Prefix o a ≡ node_task limit node (Expression.Prefix o a)
unfolding node_task
prefix_task zero node o a z = absurd (z refl)
prefix_task (suc k) node o a z = refl

pub infix_task : (limit node : ℕ) (o : InfixOperator) (a b : ℕ) → (limit ≡ 0 → ⊥) → Task.Infix o a b ≡ node_task limit node (Expression.Infix o a b)
unfolding node_task
infix_task zero node o a b z = absurd (z refl)
infix_task (suc k) node o a b z = refl

-- all but pi, at limit 0
pub spent_task : {limit : ℕ} (node : ℕ) (e : Expression) → OneOf (0 ∷ 1 ∷ 2 ∷ 3 ∷ 5 ∷ 6 ∷ []) (tag_of the_type e) → limit ≡ 0 → Task.Itself node ≡ node_task limit node e
unfolding node_task
spent_task node (Expression.Number z) k q = refl
spent_task node Expression.PiConstant k q = absurd (miss (0 ∷ 1 ∷ 2 ∷ 3 ∷ 5 ∷ 6 ∷ []) 4 tt k)
spent_task node (Expression.Variable v) k q = refl
spent_task node (Expression.Address region index) k q = refl
spent_task node (Expression.FunctionCall f a) k q = rw q refl
spent_task node (Expression.Prefix o a) k q = rw q refl
spent_task node (Expression.Infix o a b) k q = rw q refl

-- ---- that it is the definition's

-- a leaf, at any limit
leaf_task_lem : (limit : ℕ) (l : Leaf) → leaf_task l ≡ task_at limit (leaf l)
unfolding task_at
leaf_task_lem zero l = refl
leaf_task_lem (suc k) l = refl

decides : (limit node : ℕ) (e : Expression) → Decides limit node e (node_task limit node e)
unfolding node_task grown leaf_task task_at
decides limit node (Expression.Number z) = record { wants = λ tree x. ap itself x ∙ leaf_task_lem limit (number z); inside = λ n l w. l; rests = λ z. tt }
decides limit node Expression.PiConstant = record { wants = λ tree x. leaf_task_lem limit pi; inside = λ n l w. tt; rests = λ z. tt }
decides limit node (Expression.Variable v) = record { wants = λ tree x. ap itself x ∙ leaf_task_lem limit (variable v); inside = λ n l w. l; rests = λ z. tt }
decides limit node (Expression.Address region index) = record { wants = λ tree x. ap itself x ∙ leaf_task_lem limit (cell region index); inside = λ n l w. l; rests = λ z. tt }
decides zero node (Expression.FunctionCall f a) = record { wants = λ tree x. ap itself x; inside = λ n l w. l; rests = λ z. tt }
decides zero node (Expression.Prefix o a) = record { wants = λ tree x. ap itself x; inside = λ n l w. l; rests = λ z. tt }
decides zero node (Expression.Infix o a b) = record { wants = λ tree x. ap itself x; inside = λ n l w. l; rests = λ z. tt }
decides (suc k) node (Expression.FunctionCall f a) = record { wants = λ tree x. refl; inside = λ n l w. w; rests = λ z. absurd (omega (arith, z)) }
decides (suc k) node (Expression.Prefix o a) = record { wants = λ tree x. refl; inside = λ n l w. w; rests = λ z. absurd (omega (arith, z)) }
decides (suc k) node (Expression.Infix o a b) = record { wants = λ tree x. refl; inside = λ n l w. w; rests = λ z. absurd (omega (arith, z)) }

pub decided : (limit node : ℕ) (e : Expression) {task : Task} → task ≡ node_task limit node e → Decides limit node e task
decided limit node e p = rw p (decides limit node e)
