-- The small numbers of operators and functions: those that 01 gives them on the tape; and those of the operations of t rows, which are the port's
-- own, in 01's order. Definitions only.
use Rattle.std.specs.Prelude.{ℕ, List, [], ◌∷◌, cond, eqb}
use Rattle.expression.specs.declared.InfixOperator.{InfixOperator}
use Rattle.expression.specs.declared.PrefixOperator.{PrefixOperator}
use Rattle.expression.specs.declared.ExpressionFunction.{ExpressionFunction}
use Rattle.expression.specs.declared.refusal.Operation.{Operation}

-- "infix, 1 to 5 as + - * / ^"
abbrev pub infix_code : InfixOperator → ℕ
infix_code InfixOperator.Plus = 1
infix_code InfixOperator.Minus = 2
infix_code InfixOperator.Star = 3
infix_code InfixOperator.Slash = 4
infix_code InfixOperator.Caret = 5

-- "prefix, 1 +, 2 -"
abbrev pub prefix_code : PrefixOperator → ℕ
prefix_code PrefixOperator.Plus = 1
prefix_code PrefixOperator.Minus = 2

-- "function, sub 1 to 5 in the listing's order": sin, cos, exp, sqrt, cis
abbrev pub function_code : ExpressionFunction → ℕ
function_code ExpressionFunction.Sine = 1
function_code ExpressionFunction.Cosine = 2
function_code ExpressionFunction.Exponent = 3
function_code ExpressionFunction.SquareRoot = 4
function_code ExpressionFunction.Cis = 5

-- the operations of the sheet's t rows: sin, cos, exp, sqrt, pow
abbrev pub operation_code : Operation → ℕ
operation_code Operation.Sine = 1
operation_code Operation.Cosine = 2
operation_code Operation.Exponent = 3
operation_code Operation.SquareRoot = 4
operation_code Operation.Power = 5

-- and back: the first of some that has this number; the last stands for any other number
unfoldable pub numbered : {A : Type 0} → (code : A → ℕ) → List A → (last : A) → ℕ → A
numbered code [] last n = last
numbered code (x ∷ xs) last n = cond (eqb n (code x)) x (numbered code xs last n)

abbrev pub infix_of : ℕ → InfixOperator
infix_of = numbered infix_code (InfixOperator.Plus ∷ InfixOperator.Minus ∷ InfixOperator.Star ∷ InfixOperator.Slash ∷ []) InfixOperator.Caret

abbrev pub prefix_of : ℕ → PrefixOperator
prefix_of = numbered prefix_code (PrefixOperator.Plus ∷ []) PrefixOperator.Minus

abbrev pub function_of : ℕ → ExpressionFunction
function_of = numbered function_code (ExpressionFunction.Sine ∷ ExpressionFunction.Cosine ∷ ExpressionFunction.Exponent ∷ ExpressionFunction.SquareRoot ∷ []) ExpressionFunction.Cis

abbrev pub operation_of : ℕ → Operation
operation_of = numbered operation_code (Operation.Sine ∷ Operation.Cosine ∷ Operation.Exponent ∷ Operation.SquareRoot ∷ []) Operation.Power
