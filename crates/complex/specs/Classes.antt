-- One number for each class of equal doubles. Only connecting: equal doubles, and no others, have the same number (proofs/Classes.antt,
-- `equal_is_same_class`).
use Rattle.std.specs.Prelude.{ℕ, cond, ◌==◌, Float}
use Rattle.complex.specs.Bits.{bits_of}

-- a double's bits, but those of 0 for -0
unfoldable pub class_of_bits : ℕ → ℕ
class_of_bits b = cond (b == 0x8000_0000_0000_0000) 0 b

unfoldable pub class_of : Float → ℕ
class_of x = class_of_bits (bits_of x)
