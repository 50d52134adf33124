-- The names of functions, operations and operators in the texts, as bytes, numbered from 1. Definitions only.
use Rattle.std.specs.Prelude.{ℕ, ◌-◌, List, [], ◌∷◌, get_or}
use Rattle.text.specs.Letters.{bytes}
use Rattle.expression.specs.declared.InfixOperator.{InfixOperator}
use Rattle.expression.specs.declared.PrefixOperator.{PrefixOperator}
use Rattle.expression.specs.declared.ExpressionFunction.{ExpressionFunction}
use Rattle.expression.specs.declared.refusal.Operation.{Operation}
use Rattle.expression.specs.Codes.{infix_code, prefix_code, function_code, operation_code}

-- sin, cos, exp, sqrt, and a fifth
abbrev pub names_with : (fifth : List ℕ) → List (List ℕ)
names_with fifth = bytes "sin" ∷ bytes "cos" ∷ bytes "exp" ∷ bytes "sqrt" ∷ fifth ∷ []

-- "name sin, cos, exp, sqrt or cis"
abbrev pub function_names : List (List ℕ)
function_names = names_with (bytes "cis")

-- "name sin, cos, exp, sqrt or pow"
abbrev pub operation_names : List (List ℕ)
operation_names = names_with (bytes "pow")

-- "op + or -", "op + - * / ^"
abbrev pub prefix_names : List (List ℕ)
prefix_names = bytes "+" ∷ bytes "-" ∷ []

abbrev pub infix_names : List (List ℕ)
infix_names = bytes "+" ∷ bytes "-" ∷ bytes "*" ∷ bytes "/" ∷ bytes "^" ∷ []

-- the name with a number
abbrev pub named : (names : List (List ℕ)) → (code : ℕ) → List ℕ
named names code = get_or names (code - 1) []

abbrev pub function_name : ExpressionFunction → List ℕ
function_name f = named function_names (function_code f)

abbrev pub operation_name : Operation → List ℕ
operation_name o = named operation_names (operation_code o)

abbrev pub prefix_name : PrefixOperator → List ℕ
prefix_name o = named prefix_names (prefix_code o)

abbrev pub infix_name : InfixOperator → List ℕ
infix_name o = named infix_names (infix_code o)
