-- Evaluating a tree under the rows of a sheet: its value, or the first lack. Definitions only.
use Rattle.complex.specs.declared.Complex.{Complex}
use Rattle.complex.specs.Arithmetic.{plus, minus, times, over, negated}
use Rattle.complex.specs.Constants.{of_parts, zero_number, pi_number}
use Rattle.expression.specs.declared.InfixOperator.{InfixOperator}
use Rattle.expression.specs.declared.PrefixOperator.{PrefixOperator}
use Rattle.expression.specs.declared.ExpressionFunction.{ExpressionFunction}
use Rattle.expression.specs.declared.refusal.Operation.{Operation}
use Rattle.expression.specs.Trees.{Tree, Leaf, number, pi, variable, cell, leaf, function_call, prefixed, infixed}
use Rattle.sheet.specs.Rows.{Rows, Lookup, found, missing, value_of, cell_value, function_value}
use Rattle.evaluation.specs.declared.Evaluation.{Evaluation}

-- one after another: evaluation "stops at the first lack"
unfoldable pub and_then : Evaluation → (Complex → Evaluation) → Evaluation
and_then (Evaluation.Value z) next = next z
and_then Evaluation.Incomplete next = Evaluation.Incomplete
and_then (Evaluation.Need operation x y) next = Evaluation.Need operation x y

-- "10 INCOMPLETE: evaluation meets an unbound variable or cell"
unfoldable pub bound : Lookup → Evaluation
bound (found z) = Evaluation.Value z
bound missing = Evaluation.Incomplete

-- "9 NEED: no t row for this operation", with "name, operands"
unfoldable pub given : Operation → (x y : Complex) → Lookup → Evaluation
given operation x y (found z) = Evaluation.Value z
given operation x y missing = Evaluation.Need operation x y

unfoldable pub calculate_prefix : PrefixOperator → Complex → Complex
calculate_prefix PrefixOperator.Plus x = x
calculate_prefix PrefixOperator.Minus x = negated x

-- the factor of cis
abbrev pub imaginary_unit : Complex
imaginary_unit = of_parts 0 0x3FF0_0000_0000_0000

module _ (rows : Rows) where
  abbrev pub asked : Operation → (x y : Complex) → Evaluation
  asked operation x y = given operation x y (function_value operation x y rows.functions)

  -- "sin, cos, exp, sqrt and ^ come from t rows"; "For all but pow the second operand is two fields of zeros"
  abbrev pub asked_one : Operation → Complex → Evaluation
  asked_one operation x = asked operation x zero_number

  -- "cis x asks cos, then sin, and is cos + (0+1i)*sin by the formulas above"
  unfoldable pub cis : Complex → Evaluation
  cis x =
      and_then (asked_one Operation.Cosine x) λ cosine.
      and_then (asked_one Operation.Sine x) λ sine.
      Evaluation.Value (plus cosine (times imaginary_unit sine))

  unfoldable pub calculate_function : ExpressionFunction → Complex → Evaluation
  calculate_function ExpressionFunction.Sine x = asked_one Operation.Sine x
  calculate_function ExpressionFunction.Cosine x = asked_one Operation.Cosine x
  calculate_function ExpressionFunction.Exponent x = asked_one Operation.Exponent x
  calculate_function ExpressionFunction.SquareRoot x = asked_one Operation.SquareRoot x
  calculate_function ExpressionFunction.Cis x = cis x

  -- "It uses no zero test: x/0 is divided"
  unfoldable pub calculate_infix : InfixOperator → (x y : Complex) → Evaluation
  calculate_infix InfixOperator.Plus x y = Evaluation.Value (plus x y)
  calculate_infix InfixOperator.Minus x y = Evaluation.Value (minus x y)
  calculate_infix InfixOperator.Star x y = Evaluation.Value (times x y)
  calculate_infix InfixOperator.Slash x y = Evaluation.Value (over x y)
  calculate_infix InfixOperator.Caret x y = asked Operation.Power x y

  unfoldable pub leaf_value : Leaf → Evaluation
  leaf_value (number z) = Evaluation.Value z
  leaf_value pi = Evaluation.Value pi_number
  leaf_value (variable v) = bound (value_of v rows.variables)
  leaf_value (cell region index) = bound (cell_value region index rows.cells)

  -- "It goes depth first, left before right"
  unfoldable pub evaluate : Tree → Evaluation
  evaluate (leaf l) = leaf_value l
  evaluate (function_call f t) = and_then (evaluate t) λ x. calculate_function f x
  evaluate (prefixed o t) = and_then (evaluate t) λ x. Evaluation.Value (calculate_prefix o x)
  evaluate (infixed o l r) = and_then (evaluate l) λ x. and_then (evaluate r) λ y. calculate_infix o x y
