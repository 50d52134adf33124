-- What the arms look at in a tree: what it is, its number, its operands, whether it is zero or one. Definitions only.
use Rattle.std.specs.Prelude.{Bool, true, false, eqb}
use Rattle.complex.specs.declared.Complex.{Complex}
use Rattle.complex.specs.Constants.{zero_number}
use Rattle.complex.specs.Zero.{is_zero, is_one}
use Rattle.expression.specs.declared.InfixOperator.{InfixOperator}
use Rattle.expression.specs.declared.PrefixOperator.{PrefixOperator}
use Rattle.expression.specs.Codes.{infix_code}
use Rattle.expression.specs.Trees.{Tree, number, pi, variable, cell, leaf, function_call, prefixed, infixed}

-- a number that passes a test
unfoldable pub is_number_of : (Complex → Bool) → Tree → Bool
is_number_of test (leaf (number z)) = test z
is_number_of test (leaf pi) = false
is_number_of test (leaf (variable v)) = false
is_number_of test (leaf (cell region index)) = false
is_number_of test (function_call f t) = false
is_number_of test (prefixed o t) = false
is_number_of test (infixed o l r) = false

abbrev pub is_number : Tree → Bool
is_number = is_number_of (λ z. true)

-- "0" and "1" of the arms
abbrev pub is_zero_number : Tree → Bool
is_zero_number = is_number_of is_zero

abbrev pub is_one_number : Tree → Bool
is_one_number = is_number_of is_one

-- the number of a number
unfoldable pub number_in : Tree → Complex
number_in (leaf (number z)) = z
number_in (leaf pi) = zero_number
number_in (leaf (variable v)) = zero_number
number_in (leaf (cell region index)) = zero_number
number_in (function_call f t) = zero_number
number_in (prefixed o t) = zero_number
number_in (infixed o l r) = zero_number

-- -e
unfoldable pub is_negation : Tree → Bool
is_negation (leaf l) = false
is_negation (function_call f t) = false
is_negation (prefixed PrefixOperator.Plus t) = false
is_negation (prefixed PrefixOperator.Minus t) = true
is_negation (infixed o l r) = false

-- e of -e
unfoldable pub under : Tree → Tree
under (leaf l) = leaf l
under (function_call f t) = t
under (prefixed o t) = t
under (infixed o l r) = l

-- b op c
unfoldable pub is_infix : InfixOperator → Tree → Bool
is_infix op (leaf l) = false
is_infix op (function_call f t) = false
is_infix op (prefixed o t) = false
is_infix op (infixed o l r) = eqb (infix_code op) (infix_code o)

-- b and c of b op c
unfoldable pub left : Tree → Tree
left (leaf l) = leaf l
left (function_call f t) = t
left (prefixed o t) = t
left (infixed o l r) = l

unfoldable pub right : Tree → Tree
right (leaf l) = leaf l
right (function_call f t) = t
right (prefixed o t) = t
right (infixed o l r) = r
