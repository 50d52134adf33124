-- What a sheet leaves unbound of an expression or a tape: the first variable or memory cell, in the order of evaluation. Definitions only.
use Rattle.std.specs.Prelude.{◌≡◌, ℕ, Option, Some, None, List, [], ◌∷◌, length, replicate, Result, Ok, Err}
use Rattle.expression.specs.declared.refusal.Refusal.{Refusal}
use Rattle.expression.specs.Trees.{Tree, Leaf, number, pi, variable, cell, leaf, function_call, prefixed, infixed}
use Rattle.text.specs.Lines as Lines
use Rattle.text.specs.Lines.{Whole}
use Rattle.sheet.specs.Rows.{Rows, Lookup, found, missing, value_of, cell_value, sheet}
use Rattle.steps.specs.declared.Step.{Step}
use Rattle.tape.specs.Tapes.{steps_in, check}
use Rattle.calls.specs.Lent.{Work, capacity, zeroed}
use Rattle.calls.specs.Calls.{Job, ready, refused, job}
use Rattle.lacks.specs.declared.Missing.{Missing}

-- a name, where the sheet has nothing for it
unfoldable pub unless_bound : Missing → Lookup → Option Missing
unless_bound name (found z) = None
unless_bound name missing = Some name

-- the first, or where that is nothing the second
unfoldable pub or_else : Option Missing → Option Missing → Option Missing
or_else None next = next
or_else (Some m) next = Some m

module _ (rows : Rows) where
  unfoldable pub missing_leaf : Leaf → Option Missing
  missing_leaf (number z) = None
  missing_leaf pi = None
  missing_leaf (variable v) = unless_bound (Missing.Variable v) (value_of v rows.variables)
  missing_leaf (cell region index) = unless_bound (Missing.Cell region index) (cell_value region index rows.cells)

  -- "depth first, left before right"
  unfoldable pub first_missing : Tree → Option Missing
  first_missing (leaf l) = missing_leaf l
  first_missing (function_call f t) = first_missing t
  first_missing (prefixed o t) = first_missing t
  first_missing (infixed o l r) = or_else (first_missing l) (first_missing r)

  -- the steps of a tape that are leaves, in their order
  unfoldable pub missing_step : Step → Option Missing
  missing_step (Step.Number z) = missing_leaf (number z)
  missing_step Step.Pi = missing_leaf pi
  missing_step (Step.Variable v) = missing_leaf (variable v)
  missing_step (Step.Memory region index) = missing_leaf (cell region index)
  missing_step (Step.Function f) = None
  missing_step (Step.Prefix o) = None
  missing_step (Step.Infix o) = None

  unfoldable pub missing_in_steps : List Step → Option Missing
  missing_in_steps [] = None
  missing_in_steps (s ∷ ss) = or_else (missing_step s) (missing_in_steps ss)

-- ---- on bytes: where the texts are refused, nothing is named

unfoldable pub missing_of : Job → Option Missing
missing_of (ready root store rows) = first_missing rows root
missing_of (refused why) = None

abbrev pub missing_in_job : (room : ℕ) (list values : List ℕ) → Option Missing
missing_in_job room list values = missing_of (job room list values)

unfoldable pub missing_under : (tape : List ℕ) → Whole Rows Refusal → Option Missing
missing_under tape (Lines.read rows) = missing_in_steps rows (steps_in tape)
missing_under tape (Lines.refused why) = None

unfoldable pub missing_checked : Result (Unit {0}) Refusal → (tape values : List ℕ) → Option Missing
missing_checked (Ok u) tape values = missing_under tape (sheet values)
missing_checked (Err why) tape values = None

abbrev pub missing_on_tape : (tape values : List ℕ) → Option Missing
missing_on_tape tape values = missing_checked (check tape) tape values

-- ---- what the two public calls promise: the answer and the work memory at return, for all bytes

abbrev pub NamesInJob : (list values : List ℕ) (w : Work) (r : Option Missing) (w' : Work) → Type 0
NamesInJob list values w r w' = ◌≡◌ {A = Option Missing × Work} (r, w') (missing_in_job (capacity w) list values, zeroed w)

abbrev pub NamesOnTape : (tape values table : List ℕ) (r : Option Missing) (table' : List ℕ) → Type 0
NamesOnTape tape values table r table' = ◌≡◌ {A = Option Missing × List ℕ} (r, table') (missing_on_tape tape values, replicate (length table) 0)
