-- What the functions of `tape` ensure on rows, bytes and the player's array. Only connecting.
use Rattle.std.specs.Prelude.{◌≡◌, ℕ, zero, suc, ◌+◌, ◌≤◌, ◌<◌, List, [], ◌∷◌, Bool, true, false, cond, length, get_or, Option, Some, None, Result, Ok, Err}
use Rattle.std.specs.Float.{nan}
use Rattle.complex.specs.declared.Complex.{Complex}
use Rattle.expression.specs.declared.refusal.Refusal.{Refusal}
use Rattle.expression.specs.Trees.{number, pi, variable, cell}
use Rattle.expression.specs.declared.InfixOperator.{InfixOperator}
use Rattle.expression.specs.declared.node.Expression.{Expression}
use Rattle.store.specs.Memory.{Memory, tree_at}
use Rattle.store.specs.Held.{Holds}
use Rattle.text.specs.Put.{Put}
use Rattle.memory.specs.Marks.{noted}
use Rattle.sheet.specs.Rows.{Rows, Lookup, found, missing}
use Rattle.sheet.specs.Table.{seen_found}
use Rattle.evaluation.specs.declared.Evaluation.{Evaluation}
use Rattle.evaluation.specs.Evaluating.{calculate_function, calculate_infix, calculate_prefix, leaf_value}
use Rattle.evaluation.specs.Using.{used_by_function, used_by_infix}
use Rattle.steps.specs.declared.Step.{Step}
use Rattle.steps.specs.declared.Fields.{Fields}
use Rattle.steps.specs.Steps.{encoded, step_of}
use Rattle.tape.specs.Tapes.{tape, compiled, after, allowed}
use Rattle.tape.specs.Playing.{played}
use Rattle.tape.specs.Using.{used_playing}

-- ---- compiling

-- the step of a node
unfoldable pub step_for : Expression → Step
step_for (Expression.Number z) = Step.Number z
step_for Expression.PiConstant = Step.Pi
step_for (Expression.Variable v) = Step.Variable v
step_for (Expression.Address region index) = Step.Memory region index
step_for (Expression.FunctionCall f a) = Step.Function f
step_for (Expression.Prefix o a) = Step.Prefix o
step_for (Expression.Infix o a b) = Step.Infix o

-- a step, where there is room for it
abbrev pub Places : (out : List ℕ) (at : ℕ) (s : Step) (r : ℕ) (out' : List ℕ) → Type 0
Places out at s r out' = at + 24 ≤ length out → Put out at (encoded s) r out'

-- the tape of a node's tree, where there is room
abbrev pub Emits : (m : Memory) (node below at r : ℕ) (out out' : List ℕ) → Type 0
Emits m node below at r out out' =
    (n : ℕ) → Holds m n → node < n → node < below → at + length (tape (tree_at m node)) ≤ length out → Put out at (tape (tree_at m node)) r out'

abbrev pub Compiles : (m : Memory) (root nodes : ℕ) (r : Result ℕ Refusal) (out out' : List ℕ) → Type 0
Compiles m root nodes r out out' = Holds m nodes → root < nodes → ◌≡◌ {A = Result ℕ Refusal × List ℕ} (r, out') (compiled (tree_at m root) out)

-- ---- checking

-- how many values there are after a step, if it is allowed
unfoldable pub values_after : (values : ℕ) → Fields → Option ℕ
values_after values f = cond (allowed values f) (Some (after values (step_of f))) None

-- the first bad step, if there is one, as an answer
abbrev pub checked : Option ℕ → Result (Unit {0}) Refusal
checked None = Ok tt
checked (Some step) = Err (Refusal.BadTape step)

-- ---- playing

-- what the logic reads outside an array
abbrev pub filler : Complex
filler = record { re = nan; im = nan }

-- the first values of the player's array as a stack, its top first
unfoldable pub stack_of : List Complex → (depth : ℕ) → List Complex
stack_of xs zero = []
stack_of xs (suc k) = get_or xs k filler ∷ stack_of xs k

-- what a step puts on the stack in place of the values x and, above it, y
unfoldable pub value_of : Rows → Step → (x y : Complex) → Evaluation
value_of rows (Step.Number z) x y = leaf_value rows (number z)
value_of rows Step.Pi x y = leaf_value rows pi
value_of rows (Step.Variable v) x y = leaf_value rows (variable v)
value_of rows (Step.Memory region index) x y = leaf_value rows (cell region index)
value_of rows (Step.Function f) x y = calculate_function rows f x
value_of rows (Step.Prefix o) x y = Evaluation.Value (calculate_prefix o x)
value_of rows (Step.Infix o) x y = calculate_infix rows o x y

-- as far as it is a value
unfoldable pub seen_value : Evaluation → Lookup
seen_value (Evaluation.Value z) = found z
seen_value Evaluation.Incomplete = missing
seen_value (Evaluation.Need operation x y) = missing

-- whether a step's value is asked of the sheet's t rows
unfoldable pub asks : Step → Bool
asks (Step.Number z) = false
asks Step.Pi = false
asks (Step.Variable v) = false
asks (Step.Memory region index) = false
asks (Step.Function f) = true
asks (Step.Prefix o) = false
asks (Step.Infix InfixOperator.Plus) = false
asks (Step.Infix InfixOperator.Minus) = false
asks (Step.Infix InfixOperator.Star) = false
asks (Step.Infix InfixOperator.Slash) = false
asks (Step.Infix InfixOperator.Caret) = true

-- the rows that a step uses at these values
unfoldable pub used_at : Rows → Step → (x y : Complex) → List ℕ
used_at rows (Step.Number z) x y = []
used_at rows Step.Pi x y = []
used_at rows (Step.Variable v) x y = []
used_at rows (Step.Memory region index) x y = []
used_at rows (Step.Function f) x y = used_by_function rows f x
used_at rows (Step.Prefix o) x y = []
used_at rows (Step.Infix o) x y = used_by_infix rows o x y

-- a step's value, as far as there is one, and its rows marked
pub record Values (rows : Rows) (s : Step) (x y : Complex) (r : Option Complex) (marks marks' : List ℕ) : Type 0 where
  pub value : seen_found r ≡ seen_value (value_of rows s x y)
  pub marked : marks' ≡ noted (used_at rows s x y) marks

-- what a tape plays, and the rows that it uses marked
pub record Plays (rows : Rows) (tape : List ℕ) (r : Evaluation) (marks marks' : List ℕ) : Type 0 where
  pub value : r ≡ played rows tape
  pub marked : marks' ≡ noted (used_playing rows tape) marks
