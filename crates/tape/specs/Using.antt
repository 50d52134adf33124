-- Which t rows playing a tape uses: the numbers of the rows that are found, step after step, up to the first lack. Definitions only; what
-- is played stands on the page Playing, and nothing here bears on it.
use Rattle.std.specs.Prelude.{ℕ, List, [], ◌∷◌, ◌++◌}
use Rattle.complex.specs.declared.Complex.{Complex}
use Rattle.sheet.specs.Rows.{Rows}
use Rattle.evaluation.specs.Using.{used_by_function, used_by_infix}
use Rattle.steps.specs.declared.Step.{Step}
use Rattle.tape.specs.Tapes.{steps_in}
use Rattle.tape.specs.Playing.{Outcome, stands, lacks, breaks, step}

-- what is used on the stack that a step leaves; after a lack nothing is asked
unfoldable pub on_stack : Outcome → (List Complex → List ℕ) → List ℕ
on_stack (stands stack) next = next stack
on_stack (lacks e) next = []
on_stack breaks next = []

module _ (rows : Rows) where
  -- by a step, of the values on top of the stack
  unfoldable pub used_by_step : Step → List Complex → List ℕ
  used_by_step (Step.Number z) stack = []
  used_by_step Step.Pi stack = []
  used_by_step (Step.Variable v) stack = []
  used_by_step (Step.Memory region index) stack = []
  used_by_step (Step.Function f) [] = []
  used_by_step (Step.Function f) (x ∷ stack) = used_by_function rows f x
  used_by_step (Step.Prefix o) stack = []
  used_by_step (Step.Infix o) [] = []
  used_by_step (Step.Infix o) (y ∷ []) = []
  used_by_step (Step.Infix o) (y ∷ x ∷ stack) = used_by_infix rows o x y

  unfoldable pub used_in_run : List Step → List Complex → List ℕ
  used_in_run [] stack = []
  used_in_run (s ∷ ss) stack = used_by_step s stack ++ on_stack (step rows s stack) λ stack. used_in_run ss stack

  -- by a tape that was found sound
  abbrev pub used_playing : List ℕ → List ℕ
  used_playing tape = used_in_run (steps_in tape) []
