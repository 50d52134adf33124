-- What the functions on nodes and steps ensure where the rows are ordered and the table holds a sheet. Only connecting.
use Rattle.std.specs.Prelude.{◌≡◌, ℕ, ◌<◌, Option, None, List}
use Rattle.expression.specs.Trees.{Tree, variable, cell}
use Rattle.expression.specs.declared.node.Expression.{Expression}
use Rattle.expression.specs.declared.node.Operands.{Operands}
use Rattle.expression.specs.Nodes.{operands_of}
use Rattle.store.specs.Memory.{Memory, expression_at, tree_at}
use Rattle.store.specs.Numbers.{Ordered, Settling}
use Rattle.sheet.specs.declared.Counts.{Counts}
use Rattle.sheet.specs.Rows.{Rows}
use Rattle.sheet.specs.Table.{rows_of, Held}
use Rattle.steps.specs.declared.Step.{Step}
use Rattle.tape.specs.Tapes.{steps_in}
use Rattle.lacks.specs.declared.Missing.{Missing}
use Rattle.lacks.specs.Lacking.{or_else, missing_leaf, first_missing, missing_step, missing_in_steps}

-- what a node itself lacks: that of its leaf, if it is one
unfoldable pub missing_here : Rows → Expression → Option Missing
missing_here rows (Expression.Number z) = None
missing_here rows Expression.PiConstant = None
missing_here rows (Expression.Variable v) = missing_leaf rows (variable v)
missing_here rows (Expression.Address region index) = missing_leaf rows (cell region index)
missing_here rows (Expression.FunctionCall f a) = None
missing_here rows (Expression.Prefix o a) = None
missing_here rows (Expression.Infix o a b) = None

-- the first that operands lack
unfoldable pub missing_operands : Rows → (ℕ → Tree) → Operands → Option Missing
missing_operands rows tree Operands.Nothing = None
missing_operands rows tree (Operands.One a) = first_missing rows (tree a)
missing_operands rows tree (Operands.Two a b) = or_else (first_missing rows (tree a)) (first_missing rows (tree b))

abbrev pub NamesAt : (m : Memory) (table : List ℕ) → Counts → (node : ℕ) → Option Missing → Type 0
NamesAt m table rows node r = Held table rows → r ≡ missing_here (rows_of table rows) (expression_at m node)

-- what is lacking first, and from m to m' nodes that lack nothing became numbers
pub record NamesFirst (rows : Rows) (n : ℕ) (m m' : Memory) (r want : Option Missing) : Type 0 where
  pub answer : r ≡ want
  pub settling : Settling (first_missing rows) n m m'

-- of the tree of a node, and of the operands of a node
abbrev pub Names : (m m' : Memory) (table : List ℕ) → Counts → (node below : ℕ) → Option Missing → Type 0
Names m m' table rows node below r =
    (n : ℕ) → Ordered m n → node < n → node < below → Held table rows
    → NamesFirst (rows_of table rows) n m m' r (first_missing (rows_of table rows) (tree_at m node))

abbrev pub NamesBelow : (m m' : Memory) (table : List ℕ) → Counts → (node : ℕ) → Option Missing → Type 0
NamesBelow m m' table rows node r =
    (n : ℕ) → Ordered m n → node < n → Held table rows
    → NamesFirst (rows_of table rows) n m m' r (missing_operands (rows_of table rows) (tree_at m) (operands_of (expression_at m node)))

-- a step's, and the first of a tape's steps
abbrev pub NamesStep : (table : List ℕ) → Counts → Step → Option Missing → Type 0
NamesStep table rows s r = Held table rows → r ≡ missing_step (rows_of table rows) s

abbrev pub NamesSteps : (table : List ℕ) → Counts → (tape : List ℕ) → Option Missing → Type 0
NamesSteps table rows tape r = Held table rows → r ≡ missing_in_steps (rows_of table rows) (steps_in tape)
