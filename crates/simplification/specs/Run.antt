-- What the functions on nodes ensure where a store is held and the table has a sheet: what simplifying gives, as a machine's word counts. Only connecting.
use Rattle.std.specs.Prelude.{ℕ, ◌-◌, ◌<◌, List, Result}
use Rattle.expression.specs.declared.InfixOperator.{InfixOperator}
use Rattle.expression.specs.declared.PrefixOperator.{PrefixOperator}
use Rattle.expression.specs.declared.ExpressionFunction.{ExpressionFunction}
use Rattle.expression.specs.declared.node.Expression.{Expression}
use Rattle.expression.specs.Nodes.{Within}
use Rattle.store.specs.Storing.{State, Answer, noting}
use Rattle.store.specs.Memory.{tree_of}
use Rattle.store.specs.declared.desk.Refused.{Refused}
use Rattle.store.specs.Desk.{count}
use Rattle.store.specs.Held.{Lent, tree_in, Builds}
use Rattle.sheet.specs.declared.Counts.{Counts}
use Rattle.sheet.specs.Rows.{Rows}
use Rattle.sheet.specs.Table.{rows_of, Held, used_in}
use Rattle.evaluation.specs.declared.Asked.{Asked}
use Rattle.tasks.specs.Tasks.{task_at}
use Rattle.tasks.specs.Deciding.{one_more}
use Rattle.arms.specs.declared.Arm.{Arm}
use Rattle.arms.specs.Choosing.{Sits, ArmIn, plan_of, added_plan}
use Rattle.simplification.specs.Simplifying.{carry_out, folded_to, simplify_function_call, simplify_prefix, simplify_infix, perform, simplify_by}

-- a step that builds, where the table has a sheet
abbrev pub BuildsBy : (table : List ℕ) → Counts → (Of : Lent → Type 0) (want : Rows → Lent → State → Answer) (r : Result ℕ Refused) (l l' : Lent) → Type 0
BuildsBy table rows Of want r l l' = Held table rows → Builds Of (want (rows_of table rows)) r l l'

-- a value that was folded is stored, or its lack refused, once the rows that were found for it are noted
abbrev pub Stores : Asked → (r : Result ℕ Refused) (l l' : Lent) → Type 0
Stores asked = Builds (λ l. Unit {0}) (λ l s. folded_to asked.value (noting (used_in asked.used) s))

-- an arm is carried out at a limit
abbrev pub Carries : (limit : ℕ) (table : List ℕ) → Counts → Arm → (r : Result ℕ Refused) (l l' : Lent) → Type 0
Carries limit table rows arm = BuildsBy table rows (λ l. ArmIn (count l.desk) arm) λ R l. carry_out R (simplify_by one_more R limit) (plan_of l.rows arm)

-- S(S(a)+S(b))
abbrev pub Adds : (limit : ℕ) (table : List ℕ) → Counts → (a b : Expression) (r : Result ℕ Refused) (l l' : Lent) → Type 0
Adds limit table rows a b =
    BuildsBy table rows (λ l. Within (count l.desk) a × Within (count l.desk) b) λ R l. carry_out R (simplify_by one_more R limit) (added_plan l.rows a b)

-- the operations, whose operands are simplified at `limit`
abbrev pub CallsFunction : (limit : ℕ) (table : List ℕ) → Counts → ExpressionFunction → (child : ℕ) (r : Result ℕ Refused) (l l' : Lent) → Type 0
CallsFunction limit table rows f child =
    BuildsBy table rows (λ l. child < count l.desk) λ R l. simplify_function_call R (simplify_by one_more R limit) (simplify_by one_more R (limit - 1)) f (tree_in l child)

abbrev pub Prefixes : (limit : ℕ) (table : List ℕ) → Counts → PrefixOperator → (child : ℕ) (r : Result ℕ Refused) (l l' : Lent) → Type 0
Prefixes limit table rows o child =
    BuildsBy table rows (λ l. child < count l.desk) λ R l. simplify_prefix R (simplify_by one_more R limit) (simplify_by one_more R (limit - 1)) o (tree_in l child)

abbrev pub Infixes : (limit : ℕ) (table : List ℕ) → Counts → InfixOperator → (left right : ℕ) (r : Result ℕ Refused) (l l' : Lent) → Type 0
Infixes limit table rows op left right =
    BuildsBy table rows (λ l. (left < count l.desk) × (right < count l.desk))
    λ R l. simplify_infix R (simplify_by one_more R limit) (simplify_by one_more R (limit - 1)) op (tree_in l left) (tree_in l right)

-- what is done at a node for which nothing is kept
abbrev pub Performs : (limit : ℕ) (table : List ℕ) → Counts → (node : ℕ) (e : Expression) (r : Result ℕ Refused) (l l' : Lent) → Type 0
Performs limit table rows node e =
    BuildsBy table rows (λ l. Sits l.rows (count l.desk) node e)
    λ R l. perform R (simplify_by one_more R (limit - 1)) (simplify_by one_more R (limit - 1 - 1)) (task_at limit (tree_of l.rows e))

-- the tree of a node is simplified
abbrev pub Simplifies : (limit : ℕ) (table : List ℕ) → Counts → (node : ℕ) (r : Result ℕ Refused) (l l' : Lent) → Type 0
Simplifies limit table rows node = BuildsBy table rows (λ l. node < count l.desk) λ R l. simplify_by one_more R limit (tree_in l node)
