-- Reading a tree as a real number. Definitions only.
use Rattle.std.specs.Prelude.{Bool, cond, ◌&&◌, Float, Result, Ok, Err}
use Rattle.std.specs.Float.Ieee.{lt, neg}
use Rattle.complex.specs.declared.Complex.{Complex}
use Rattle.complex.specs.Bits.{double_of}
use Rattle.complex.specs.Constants.{pi_number}
use Rattle.expression.specs.declared.refusal.Refusal.{Refusal}
use Rattle.expression.specs.Trees.{Tree, number, pi, variable, cell, leaf, function_call, prefixed, infixed}

-- the double nearest 1e-16, which is a little less than that
abbrev pub tiny : Float
tiny = double_of 0x3C9C_D2B2_97D8_89BC

-- "below 1e-16 in magnitude", as the Rust compares, with that double, which is not below itself; a NaN is not either
abbrev pub small : Float → Bool
small x = lt (neg tiny) x && lt x tiny

-- "11 NOT_REAL: `to_real` on a number with imaginary part not below 1e-16 in magnitude, NaN included"
unfoldable pub real_part : Complex → Result Float Refusal
real_part z = cond (small z.im) (Ok z.re) (Err Refusal.NotReal)

-- "12 NOT_A_NUMBER: `to_real`, root neither number nor pi"
unfoldable pub to_real : Tree → Result Float Refusal
to_real (leaf (number z)) = real_part z
to_real (leaf pi) = Ok pi_number.re
to_real (leaf (variable v)) = Err Refusal.NotANumber
to_real (leaf (cell region index)) = Err Refusal.NotANumber
to_real (function_call f t) = Err Refusal.NotANumber
to_real (prefixed o t) = Err Refusal.NotANumber
to_real (infixed o l r) = Err Refusal.NotANumber
