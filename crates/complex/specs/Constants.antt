-- The constants of the port, by the bits of their parts. Definitions only.
use Rattle.std.specs.Prelude.{ℕ}
use Rattle.complex.specs.declared.Complex.{Complex}
use Rattle.complex.specs.Bits.{double_of, nan_pattern}

-- the complex number with parts of these bits
abbrev pub of_parts : ℕ → ℕ → Complex
of_parts re im = record { re = double_of re; im = double_of im }

abbrev pub zero_number : Complex
zero_number = of_parts 0 0

abbrev pub one_number : Complex
one_number = of_parts 0x3FF0_0000_0000_0000 0

abbrev pub two_number : Complex
two_number = of_parts 0x4000_0000_0000_0000 0

-- arms 23 and 24: the negation of 1, so its imaginary part is -0
abbrev pub minus_one_number : Complex
minus_one_number = of_parts 0xBFF0_0000_0000_0000 0x8000_0000_0000_0000

-- pi's number
abbrev pub pi_number : Complex
pi_number = of_parts 0x4009_21FB_5444_2D18 0

-- arm 10: NaN, imaginary 0
abbrev pub nan_number : Complex
nan_number = of_parts nan_pattern 0
