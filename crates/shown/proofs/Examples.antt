-- Worked examples of the definitions, which antt computes: a step of each kind. Assumes nothing.
use mathlib.Core.Path.{◌≡◌, refl}
use mathlib.Core.List.{[], ◌∷◌}
use lib.Ieee.{of_bits, to_bits}
use Rattle.complex.specs.Constants.{of_parts}
use Rattle.expression.specs.declared.InfixOperator.{InfixOperator}
use Rattle.expression.specs.declared.PrefixOperator.{PrefixOperator}
use Rattle.expression.specs.declared.ExpressionFunction.{ExpressionFunction}
use Rattle.text.specs.Letters.{bytes}
use Rattle.text.specs.Digits.{digits, digits_by}
use Rattle.text.specs.Writing.{byte_of, in_decimal, last_hex, in_hex, line}
use Rattle.steps.specs.declared.Step.{Step}
use Rattle.shown.specs.Showing.{step_fields, step_line, shown_from, shown}

-- sin(-pi)
sine : shown (Step.Pi ∷ Step.Prefix PrefixOperator.Minus ∷ Step.Function ExpressionFunction.Sine ∷ []) ≡ bytes "0\tpi\n1\tprefix\t-\n2\tfunction\tsin\n"
unfolding shown_from step_line step_fields line in_decimal digits digits_by byte_of
sine = refl

-- variable 65535 to the power of cell 20 of region 1
power : shown (Step.Variable 65535 ∷ Step.Memory 1 20 ∷ Step.Infix InfixOperator.Caret ∷ []) ≡ bytes "0\tvariable\t65535\n1\tmemory\t1\t20\n2\tinfix\t^\n"
unfolding shown_from step_line step_fields line in_decimal digits digits_by byte_of
power = refl

-- 1 - 2i
number : shown (Step.Number (of_parts 0x3FF0_0000_0000_0000 0xC000_0000_0000_0000) ∷ []) ≡ bytes "0\tnumber\t3FF0000000000000\tC000000000000000\n"
unfolding shown_from step_line step_fields line in_decimal digits digits_by byte_of in_hex last_hex to_bits of_bits
number = refl
