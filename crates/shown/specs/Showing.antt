-- The steps of a tape in words: a line a step, its number from 0, what it is, and its operands. Definitions only.
use Rattle.std.specs.Prelude.{ℕ, suc, List, [], ◌∷◌, ◌++◌}
use Rattle.complex.specs.Bits.{bits_of}
use Rattle.text.specs.Letters.{bytes}
use Rattle.text.specs.Writing.{in_decimal, in_hex, line}
use Rattle.spelling.specs.Names.{function_name, prefix_name, infix_name}
use Rattle.steps.specs.declared.Step.{Step}

-- what a step is, and its operands
unfoldable pub step_fields : Step → List (List ℕ)
step_fields (Step.Number z) = bytes "number" ∷ in_hex (bits_of z.re) ∷ in_hex (bits_of z.im) ∷ []
step_fields Step.Pi = bytes "pi" ∷ []
step_fields (Step.Variable v) = bytes "variable" ∷ in_decimal v ∷ []
step_fields (Step.Memory region index) = bytes "memory" ∷ in_decimal region ∷ in_decimal index ∷ []
step_fields (Step.Function f) = bytes "function" ∷ function_name f ∷ []
step_fields (Step.Prefix o) = bytes "prefix" ∷ prefix_name o ∷ []
step_fields (Step.Infix o) = bytes "infix" ∷ infix_name o ∷ []

-- the line of step k
unfoldable pub step_line : (k : ℕ) → Step → List ℕ
step_line k s = line (in_decimal k ∷ step_fields s)

-- the lines of the steps from step k on
unfoldable pub shown_from : (k : ℕ) → List Step → List ℕ
shown_from k [] = []
shown_from k (s ∷ ss) = step_line k s ++ shown_from (suc k) ss

abbrev pub shown : List Step → List ℕ
shown = shown_from 0
