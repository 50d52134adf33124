-- Which t rows evaluating a tree uses: the numbers of the rows that are found, in the order in which they are asked for, up to the first
-- lack. Definitions only; the values stand on the page Evaluating, and nothing here bears on them.
use Rattle.std.specs.Prelude.{ℕ, List, [], ◌∷◌, ◌++◌}
use Rattle.complex.specs.declared.Complex.{Complex}
use Rattle.complex.specs.Constants.{zero_number}
use Rattle.expression.specs.declared.InfixOperator.{InfixOperator}
use Rattle.expression.specs.declared.ExpressionFunction.{ExpressionFunction}
use Rattle.expression.specs.declared.refusal.Operation.{Operation}
use Rattle.expression.specs.Trees.{Tree, leaf, function_call, prefixed, infixed}
use Rattle.sheet.specs.Rows.{Rows, Numbered, at, nowhere, function_row}
use Rattle.evaluation.specs.declared.Evaluation.{Evaluation}
use Rattle.evaluation.specs.Evaluating.{asked_one, evaluate}

-- a row is used if it is found
unfoldable pub found_row : Numbered → List ℕ
found_row (at j value) = j ∷ []
found_row nowhere = []

-- what is used after a value; after a lack nothing is asked
unfoldable pub after_value : Evaluation → (Complex → List ℕ) → List ℕ
after_value (Evaluation.Value z) next = next z
after_value Evaluation.Incomplete next = []
after_value (Evaluation.Need operation x y) next = []

module _ (rows : Rows) where
  abbrev pub used_for : Operation → (x y : Complex) → List ℕ
  used_for operation x y = found_row (function_row operation x y rows.functions)

  abbrev pub used_for_one : Operation → Complex → List ℕ
  used_for_one operation x = used_for operation x zero_number

  -- "cis x asks cos, then sin": the row of cos is used also where that of sin is lacking
  unfoldable pub used_by_function : ExpressionFunction → Complex → List ℕ
  used_by_function ExpressionFunction.Sine x = used_for_one Operation.Sine x
  used_by_function ExpressionFunction.Cosine x = used_for_one Operation.Cosine x
  used_by_function ExpressionFunction.Exponent x = used_for_one Operation.Exponent x
  used_by_function ExpressionFunction.SquareRoot x = used_for_one Operation.SquareRoot x
  used_by_function ExpressionFunction.Cis x = used_for_one Operation.Cosine x ++ after_value (asked_one rows Operation.Cosine x) λ cosine. used_for_one Operation.Sine x

  -- of the operators only ^ is asked for
  unfoldable pub used_by_infix : InfixOperator → (x y : Complex) → List ℕ
  used_by_infix InfixOperator.Plus x y = []
  used_by_infix InfixOperator.Minus x y = []
  used_by_infix InfixOperator.Star x y = []
  used_by_infix InfixOperator.Slash x y = []
  used_by_infix InfixOperator.Caret x y = used_for Operation.Power x y

  -- "It goes depth first, left before right", and "stops at the first lack"
  unfoldable pub used : Tree → List ℕ
  used (leaf l) = []
  used (function_call f t) = used t ++ after_value (evaluate rows t) λ x. used_by_function f x
  used (prefixed o t) = used t
  used (infixed o l r) = used l ++ after_value (evaluate rows l) λ x. used r ++ after_value (evaluate rows r) λ y. used_by_infix o x y
