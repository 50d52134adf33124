-- Two answers that a contract of `tasks` allows are equal. Assumes nothing.
use mathlib.Core.Path.{◌≡◌, sym, ◌∙◌}
use Prim.Native.Nat.{ℕ}
use Rattle.expression.specs.declared.node.Expression.{Expression}
use Rattle.tasks.specs.declared.Task.{Task}
use Rattle.tasks.specs.declared.limit.Limit.{Limit}
use Rattle.tasks.specs.Deciding.{node_task}

-- node and limit alone determine the task: `task_at`
pub one_task : (limit node : ℕ) (e : Expression) {task task' : Task} → task ≡ node_task limit node e → task' ≡ node_task limit node e → task ≡ task'
one_task limit node e p q = p ∙ sym q

-- a limit is its number: `lowered`
pub one_limit : {limit : ℕ} (r r' : Limit) → r.0 ≡ limit → r'.0 ≡ limit → r ≡ r'
one_limit r r' p q = λ i. record { 0 = (p ∙ sym q) i }
