-- What the functions on nodes ensure where the rows are ordered, or hold a store, and the table holds a sheet. Only connecting.
use Rattle.std.specs.Prelude.{◌≡◌, ℕ, ◌<◌, Bool, true, false, List, None, Result, Ok, Err, ◌-◌, Float}
use Rattle.expression.specs.declared.refusal.Refusal.{Refusal}
use Rattle.expression.specs.declared.InfixOperator.{InfixOperator}
use Rattle.expression.specs.declared.node.Expression.{Expression}
use Rattle.expression.specs.Trees.{Tree}
use Rattle.memory.specs.Layout.{numbered}
use Rattle.memory.specs.Marks.{noted}
use Rattle.store.specs.Memory.{Memory, expression_at, tree_at}
use Rattle.store.specs.Held.{Holds}
use Rattle.store.specs.Numbers.{IsNumber, OverNumbers, Ordered, Settling}
use Rattle.sheet.specs.declared.Counts.{Counts}
use Rattle.sheet.specs.Rows.{Rows}
use Rattle.sheet.specs.Table.{rows_of, Held, used_in}
use Rattle.evaluation.specs.declared.Evaluation.{Evaluation}
use Rattle.evaluation.specs.declared.Asked.{Asked}
use Rattle.evaluation.specs.Evaluating.{evaluate}
use Rattle.evaluation.specs.Using.{used}
use Rattle.evaluation.specs.Reals.{to_real}

-- what an operation on numbers gives, and the rows that it used
abbrev pub Answers : Evaluation → (used : List ℕ) → Asked → Type 0
Answers value used r = (r.value ≡ value) × (used_in r.used ≡ used)

-- the same where one row is asked for
abbrev pub AnswersOne : Evaluation → (used : List ℕ) → Asked → Type 0
AnswersOne value used r = (r.value ≡ value) × (numbered r.used.first ≡ used) × (r.used.second ≡ None)

-- the tree of a node has this value, and the rows that it uses are marked; and of one whose operands are numbers
pub record WorkedOut (rows : Rows) (t : Tree) (r : Evaluation) (marks marks' : List ℕ) : Type 0 where
  pub value : r ≡ evaluate rows t
  pub marked : marks' ≡ noted (used rows t) marks

abbrev pub Evaluates : (m : Memory) (table : List ℕ) → Counts → (node below : ℕ) → Evaluation → (marks marks' : List ℕ) → Type 0
Evaluates m table rows node below r marks marks' =
    (n : ℕ) → Ordered m n → node < n → node < below → Held table rows → WorkedOut (rows_of table rows) (tree_at m node) r marks marks'

abbrev pub EvaluatesLast : (m : Memory) (table : List ℕ) → Counts → (node : ℕ) → Asked → Type 0
EvaluatesLast m table rows node r =
    (n : ℕ) → Ordered m n → node < n → OverNumbers m node → Held table rows
    → Answers (evaluate (rows_of table rows) (tree_at m node)) (used (rows_of table rows) (tree_at m node)) r

-- ---- nodes that become their values

abbrev pub NoValue : Evaluation → Type 0
NoValue (Evaluation.Value z) = ⊥
NoValue Evaluation.Incomplete = Unit {0}
NoValue (Evaluation.Need operation x y) = Unit {0}

-- the first lack of a node is that of node k, whose operands are numbers
pub record LacksAt (rows : Rows) (m : Memory) (n node k : ℕ) : Type 0 where
  pub inside : k < n
  pub ready : OverNumbers m k
  pub same : evaluate rows (tree_at m k) ≡ evaluate rows (tree_at m node)
  pub none : NoValue (evaluate rows (tree_at m k))

-- what a tree gives, and what its rows leave of marks: a node that became its value gives the same where its rows are marked
unfoldable pub given : Rows → (marks : List ℕ) → Tree → Evaluation × List ℕ
given rows marks t = (evaluate rows t, noted (used rows t) marks)

-- from m to m' nodes became their values. Then what was to be done is done, or r has the node of the first lack. The rows that were marked are
-- some of the node's; at a lack they are all of them
pub record Settled (rows : Rows) (n node : ℕ) (r : Result (Unit {0}) ℕ) (m m' : Memory) (Done : Type 0) (marks marks' : List ℕ) : Type 0 where
  pub settling : Settling (given rows marks') n m m'
  pub covered : noted (used rows (tree_at m node)) marks' ≡ noted (used rows (tree_at m node)) marks
  pub done : r ≡ Ok tt → Done
  pub lack : (k : ℕ) → r ≡ Err k → LacksAt rows m' n node k
  pub all : (k : ℕ) → r ≡ Err k → marks' ≡ noted (used rows (tree_at m node)) marks

-- the same at a node whose operands are numbers and whose rows are marked: r says whether it has become its value
pub record Ended (rows : Rows) (n node : ℕ) (r : Bool) (m m' : Memory) (marks : List ℕ) : Type 0 where
  pub settling : Settling (given rows marks) n m m'
  pub done : r ≡ true → IsNumber m' node
  pub lack : r ≡ false → LacksAt rows m' n node node

pub record Finished (rows : Rows) (n node : ℕ) (r : Bool) (m m' : Memory) (marks marks' : List ℕ) : Type 0 where
  pub ended : Ended rows n node r m m' marks'
  pub marked : marks' ≡ noted (used rows (tree_at m node)) marks

abbrev pub Settles : (m m' : Memory) (table : List ℕ) → Counts → (node below : ℕ) (r : Result (Unit {0}) ℕ) (marks marks' : List ℕ) → Type 0
Settles m m' table rows node below r marks marks' =
    (n : ℕ) → Ordered m n → node < n → node < below → Held table rows → Settled (rows_of table rows) n node r m m' (IsNumber m' node) marks marks'

abbrev pub SettlesOperands : (m m' : Memory) (table : List ℕ) → Counts → (node : ℕ) (r : Result (Unit {0}) ℕ) (marks marks' : List ℕ) → Type 0
SettlesOperands m m' table rows node r marks marks' =
    (n : ℕ) → Ordered m n → node < n → Held table rows → Settled (rows_of table rows) n node r m m' (OverNumbers m' node) marks marks'

abbrev pub Finishes : (m m' : Memory) (table : List ℕ) → Counts → (node : ℕ) (r : Bool) (marks marks' : List ℕ) → Type 0
Finishes m m' table rows node r marks marks' =
    (n : ℕ) → Ordered m n → node < n → OverNumbers m node → Held table rows → Finished (rows_of table rows) n node r m m' marks marks'

abbrev pub FinishesInfix : InfixOperator → (left right : ℕ) (m m' : Memory) (table : List ℕ) → Counts → (node : ℕ) (r : Bool) (marks marks' : List ℕ) → Type 0
FinishesInfix operator left right m m' table rows node r marks marks' =
    expression_at m node ≡ Expression.Infix operator left right → Finishes m m' table rows node r marks marks'

abbrev pub ReadsReal : (m : Memory) (node : ℕ) → Result Float Refusal → Type 0
ReadsReal m node r = (n : ℕ) → Holds m n → node < n → r ≡ to_real (tree_at m node)
