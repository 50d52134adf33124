-- Examples of the definitions, computed: the order of evaluating, what a lack is, dividing by zero, and reading as a real.
-- Assumes nothing.
use mathlib.Core.Path.{◌≡◌, refl}
use mathlib.Core.Bool.{false}
use mathlib.Core.List.{[]}
use Prim.Native.Nat.{◌^◌}
use lib.Ieee.{binary64, add, mul, sub, div, lt, neg, round, of_bits}
use Rattle.std.specs.Prelude.{Ok, Err}
use Rattle.complex.specs.Arithmetic.{over}
use Rattle.complex.specs.Constants.{of_parts, zero_number, one_number, two_number, pi_number}
use Rattle.expression.specs.declared.InfixOperator.{InfixOperator}
use Rattle.expression.specs.declared.ExpressionFunction.{ExpressionFunction}
use Rattle.expression.specs.declared.refusal.Operation.{Operation}
use Rattle.expression.specs.declared.refusal.Refusal.{Refusal}
use Rattle.expression.specs.Trees.{Tree, leaf, number, pi, variable, function_call, infixed}
use Rattle.sheet.specs.Rows.{Rows, rows, value_of, function_value}
use Rattle.evaluation.specs.declared.Evaluation.{Evaluation}
use Rattle.evaluation.specs.Evaluating.{evaluate, and_then, bound, given, cis, calculate_function, calculate_infix, leaf_value}
use Rattle.evaluation.specs.Reals.{tiny, real_part, to_real}

a : Tree
a = leaf (variable 0)

b : Tree
b = leaf (variable 1)

one : Tree
one = leaf (number one_number)

nothing_bound : Rows
nothing_bound = rows [] [] []

-- the left operand's lack comes first: a is not bound, and sin 1 has no row
left_lack : evaluate nothing_bound (infixed InfixOperator.Plus a (function_call ExpressionFunction.Sine one)) ≡ Evaluation.Incomplete
unfolding evaluate and_then leaf_value bound value_of a nothing_bound
left_lack = refl

left_need : evaluate nothing_bound (infixed InfixOperator.Plus (function_call ExpressionFunction.Sine one) a) ≡ Evaluation.Need Operation.Sine one_number zero_number
unfolding evaluate and_then leaf_value calculate_function given function_value one nothing_bound
left_need = refl

-- cis asks cos, then sin
cis_cosine : evaluate nothing_bound (function_call ExpressionFunction.Cis one) ≡ Evaluation.Need Operation.Cosine one_number zero_number
unfolding evaluate and_then leaf_value calculate_function cis given function_value one nothing_bound
cis_cosine = refl

-- ^ asks for pow, with both operands
power_asked : evaluate nothing_bound (infixed InfixOperator.Caret one (leaf pi)) ≡ Evaluation.Need Operation.Power one_number pi_number
unfolding evaluate and_then leaf_value calculate_infix given function_value one nothing_bound
power_asked = refl

-- 1e-16 is the double nearest it
tiny_nearest : round binary64 false 1 (10 ^ 16) ≡ tiny
unfolding round of_bits
tiny_nearest = refl

-- "It uses no zero test: x/0 is divided": 2/0 is NaN in both parts
two_over_zero : evaluate nothing_bound (infixed InfixOperator.Slash (leaf (number two_number)) (leaf (number zero_number)))
    ≡ Evaluation.Value (of_parts 0x7FF8_0000_0000_0000 0x7FF8_0000_0000_0000)
unfolding evaluate and_then leaf_value calculate_infix nothing_bound over add mul sub div of_bits
two_over_zero = refl

-- "below 1e-16 in magnitude": the double nearest 1e-16 is not, the one below it is; NaN is not
at_the_limit : to_real (leaf (number (of_parts 0x3FF0_0000_0000_0000 0x3C9C_D2B2_97D8_89BC))) ≡ Err Refusal.NotReal
unfolding to_real real_part lt neg of_bits
at_the_limit = refl

below_the_limit : to_real (leaf (number (of_parts 0x3FF0_0000_0000_0000 0xBC9C_D2B2_97D8_89BB))) ≡ Ok one_number.re
unfolding to_real real_part lt neg of_bits
below_the_limit = refl

nan_imaginary : to_real (leaf (number (of_parts 0 0x7FF8_0000_0000_0000))) ≡ Err Refusal.NotReal
unfolding to_real real_part lt neg of_bits
nan_imaginary = refl

no_number : to_real a ≡ Err Refusal.NotANumber
unfolding to_real a
no_number = refl
