-- No operation on numbers is incomplete: it gives a value, or lacks a function value. Assumes nothing.
use Rattle.complex.specs.declared.Complex.{Complex}
use Rattle.expression.specs.declared.InfixOperator.{InfixOperator}
use Rattle.expression.specs.declared.ExpressionFunction.{ExpressionFunction}
use Rattle.expression.specs.declared.refusal.Operation.{Operation}
use Rattle.sheet.specs.Rows.{Rows, Lookup, found, missing}
use Rattle.evaluation.specs.declared.Evaluation.{Evaluation}
use Rattle.evaluation.specs.Evaluating.{and_then, given, asked_one, cis, calculate_function, calculate_infix}

abbrev pub Known : Evaluation → Type 0
Known (Evaluation.Value z) = Unit {0}
Known Evaluation.Incomplete = ⊥
Known (Evaluation.Need operation x y) = Unit {0}

given_known : (operation : Operation) (x y : Complex) (l : Lookup) → Known (given operation x y l)
unfolding given
given_known operation x y (found z) = tt
given_known operation x y missing = tt

then_known : (a : Evaluation) (f : Complex → Evaluation) → Known a → ((z : Complex) → Known (f z)) → Known (and_then a f)
unfolding and_then
then_known (Evaluation.Value z) f p q = q z
then_known Evaluation.Incomplete f p q = p
then_known (Evaluation.Need operation x y) f p q = tt

module _ (R : Rows) where
  cis_known : (x : Complex) → Known (cis R x)
  unfolding cis
  cis_known x = then_known (asked_one R Operation.Cosine x) _ (given_known Operation.Cosine x _ _) λ c. then_known (asked_one R Operation.Sine x) _ (given_known Operation.Sine x _ _) λ s. tt

  pub function_known : (f : ExpressionFunction) (x : Complex) → Known (calculate_function R f x)
  unfolding calculate_function
  function_known ExpressionFunction.Sine x = given_known Operation.Sine x _ _
  function_known ExpressionFunction.Cosine x = given_known Operation.Cosine x _ _
  function_known ExpressionFunction.Exponent x = given_known Operation.Exponent x _ _
  function_known ExpressionFunction.SquareRoot x = given_known Operation.SquareRoot x _ _
  function_known ExpressionFunction.Cis x = cis_known x

  pub infix_known : (o : InfixOperator) (x y : Complex) → Known (calculate_infix R o x y)
  unfolding calculate_infix
  infix_known InfixOperator.Plus x y = tt
  infix_known InfixOperator.Minus x y = tt
  infix_known InfixOperator.Star x y = tt
  infix_known InfixOperator.Slash x y = tt
  infix_known InfixOperator.Caret x y = given_known Operation.Power x y _
