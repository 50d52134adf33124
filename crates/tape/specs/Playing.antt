-- Playing a tape under the rows of a sheet: the stack after each step, and what the last one leaves. Definitions only.
use Rattle.std.specs.Prelude.{ℕ, List, [], ◌∷◌, cond, length, ltb}
use Rattle.complex.specs.declared.Complex.{Complex}
use Rattle.expression.specs.Trees.{number, pi, variable, cell}
use Rattle.sheet.specs.Rows.{Rows}
use Rattle.evaluation.specs.declared.Evaluation.{Evaluation}
use Rattle.evaluation.specs.Evaluating.{calculate_function, calculate_infix, calculate_prefix, leaf_value}
use Rattle.steps.specs.declared.Step.{Step}
use Rattle.tape.specs.Tapes.{most_values, steps_in}

-- a stack, its top first; or the lack at which playing stops; or that it ran out of stack, which no sound tape does
pub data Outcome : Type 0 where
  stands : List Complex → Outcome
  lacks : Evaluation → Outcome
  breaks : Outcome

-- "The stack is sixty-four complex numbers and a count": a value is put on it where there is room
unfoldable pub push : Evaluation → List Complex → Outcome
push (Evaluation.Value z) stack = cond (ltb (length stack) most_values) (stands (z ∷ stack)) breaks
push Evaluation.Incomplete stack = lacks Evaluation.Incomplete
push (Evaluation.Need operation x y) stack = lacks (Evaluation.Need operation x y)

-- one step after another
unfoldable pub and_then : Outcome → (List Complex → Outcome) → Outcome
and_then (stands stack) next = next stack
and_then (lacks e) next = lacks e
and_then breaks next = breaks

-- what the last step leaves: one value; all else is a lack, or is no sound tape's
unfoldable pub result : Outcome → Evaluation
result (stands []) = Evaluation.Incomplete
result (stands (z ∷ [])) = Evaluation.Value z
result (stands (z ∷ y ∷ stack)) = Evaluation.Incomplete
result (lacks e) = e
result breaks = Evaluation.Incomplete

module _ (rows : Rows) where
  -- a step: leaves are looked up, operations taken of the values on top, which they replace
  unfoldable pub step : Step → List Complex → Outcome
  step (Step.Number z) stack = push (leaf_value rows (number z)) stack
  step Step.Pi stack = push (leaf_value rows pi) stack
  step (Step.Variable v) stack = push (leaf_value rows (variable v)) stack
  step (Step.Memory region index) stack = push (leaf_value rows (cell region index)) stack
  step (Step.Function f) [] = breaks
  step (Step.Function f) (x ∷ stack) = push (calculate_function rows f x) stack
  step (Step.Prefix o) [] = breaks
  step (Step.Prefix o) (x ∷ stack) = push (Evaluation.Value (calculate_prefix o x)) stack
  step (Step.Infix o) [] = breaks
  step (Step.Infix o) (y ∷ []) = breaks
  step (Step.Infix o) (y ∷ x ∷ stack) = push (calculate_infix rows o x y) stack

  unfoldable pub run : List Step → List Complex → Outcome
  run [] stack = stands stack
  run (s ∷ ss) stack = and_then (step s stack) λ stack. run ss stack

  -- a tape that was found sound
  abbrev pub played : List ℕ → Evaluation
  played tape = result (run (steps_in tape) [])
