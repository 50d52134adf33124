-- How a machine's word counts, which task `task_at` answers for a node, and how a task on nodes is one on trees. Only connecting.
use Rattle.std.specs.Prelude.{ℕ, zero, suc, ◌<◌, ◌≡◌, cond, ltb}
use Rattle.expression.specs.Trees.{Tree}
use Rattle.expression.specs.declared.node.Expression.{Expression}
use Rattle.expression.specs.Nodes.{grown, Within}
use Rattle.tasks.specs.declared.Task.{Task}
use Rattle.tasks.specs.Tasks as Trees
use Rattle.tasks.specs.Tasks.{number_of_pi, itself, calling, prefixing, infixing, task_at}

-- One more call. The word stays at its largest, which is never reached: the definition counts without end, and both counts agree
-- (simplification/proofs/Machine.antt)
unfoldable pub one_more : (calls : ℕ) → ℕ
one_more calls = cond (ltb calls 18446744073709551615) (suc calls) calls

-- a task read as one on trees, where `tree` gives the tree of each node
abbrev pub task_of : (tree : ℕ → Tree) → Task → Trees.Task
task_of tree Task.NumberOfPi = number_of_pi
task_of tree (Task.Itself k) = itself (tree k)
task_of tree (Task.FunctionCall f a) = calling f (tree a)
task_of tree (Task.Infix o a b) = infixing o (tree a) (tree b)
task_of tree (Task.Prefix o a) = prefixing o (tree a)

-- the nodes of a task are among the first n
abbrev pub TaskIn : ℕ → Task → Type 0
TaskIn n Task.NumberOfPi = Unit {0}
TaskIn n (Task.Itself k) = k < n
TaskIn n (Task.FunctionCall f a) = a < n
TaskIn n (Task.Infix o a b) = (a < n) × (b < n)
TaskIn n (Task.Prefix o a) = a < n

-- no operation runs
abbrev pub Rests : Task → Type 0
Rests Task.NumberOfPi = Unit {0}
Rests (Task.Itself k) = Unit {0}
Rests (Task.FunctionCall f a) = ⊥
Rests (Task.Infix o a b) = ⊥
Rests (Task.Prefix o a) = ⊥

-- the task of `node`, which is e
unfoldable pub node_task : (limit node : ℕ) → Expression → Task
node_task limit node (Expression.Number z) = Task.Itself node
node_task limit node Expression.PiConstant = Task.NumberOfPi
node_task limit node (Expression.Variable v) = Task.Itself node
node_task limit node (Expression.Address region index) = Task.Itself node
node_task zero node (Expression.FunctionCall f a) = Task.Itself node
node_task zero node (Expression.Prefix o a) = Task.Itself node
node_task zero node (Expression.Infix o a b) = Task.Itself node
node_task (suc k) node (Expression.FunctionCall f a) = Task.FunctionCall f a
node_task (suc k) node (Expression.Prefix o a) = Task.Prefix o a
node_task (suc k) node (Expression.Infix o a b) = Task.Infix o a b

-- What a caller has from it (proofs/Deciding.antt, `decided`). Read as trees it is the definition's task; its nodes are among the first n if `node` and
-- the operands are; and at limit 0 it is no operation, whatever the rows hold: by that the cycle ends
pub record Decides (limit node : ℕ) (e : Expression) (task : Task) : Type 0 where
  pub wants : (tree : ℕ → Tree) → tree node ≡ grown tree e → task_of tree task ≡ task_at limit (grown tree e)
  pub inside : (n : ℕ) → node < n → Within n e → TaskIn n task
  pub rests : limit ≡ 0 → Rests task
