-- The lines that the programs print: a value, a real, a function value that is lacking, a refusal. Definitions only.
use Rattle.std.specs.Prelude.{ℕ, List, [], ◌∷◌, Float}
use Rattle.complex.specs.declared.Complex.{Complex}
use Rattle.complex.specs.Bits.{bits_of}
use Rattle.expression.specs.declared.refusal.Operation.{Operation}
use Rattle.expression.specs.declared.refusal.Refusal.{Refusal}
use Rattle.expression.specs.Refusals.{number_of, Carried, place, lacking, carries}
use Rattle.text.specs.Letters.{bytes}
use Rattle.text.specs.Writing.{in_decimal, in_hex, line}
use Rattle.spelling.specs.Names.{operation_name}

-- `value`, and the two parts
unfoldable pub value_line : Complex → List ℕ
value_line z = line (bytes "value" ∷ in_hex (bits_of z.re) ∷ in_hex (bits_of z.im) ∷ [])

-- `real`, and the number
unfoldable pub real_line : Float → List ℕ
real_line x = line (bytes "real" ∷ in_hex (bits_of x) ∷ [])

-- "`refused·number·place`"
unfoldable pub refused_line : (number at : ℕ) → List ℕ
refused_line number at = line (bytes "refused" ∷ in_decimal number ∷ in_decimal at ∷ [])

-- "`need·name` and four operand fields"
unfoldable pub need_line : Operation → (x y : Complex) → List ℕ
need_line operation x y =
    line (bytes "need" ∷ operation_name operation ∷ in_hex (bits_of x.re) ∷ in_hex (bits_of x.im) ∷ in_hex (bits_of y.re) ∷ in_hex (bits_of y.im) ∷ [])

unfoldable pub carried_line : (number : ℕ) → Carried → List ℕ
carried_line number (place k) = refused_line number k
carried_line number (lacking operation x y) = need_line operation x y

abbrev pub refusal_line : Refusal → List ℕ
refusal_line why = carried_line (number_of why) (carries why)
