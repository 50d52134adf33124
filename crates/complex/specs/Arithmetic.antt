-- Complex arithmetic, by 01's formulas over lib.Ieee: each of ⊕ ⊖ ⊗ ⊘ is one IEEE 754 binary64 operation and rounds once.
-- Definitions only.
use Rattle.std.specs.Float.Ieee as Ieee
use Rattle.std.specs.Prelude.{Float}
use Rattle.std.specs.Float.{binary64}
use Rattle.complex.specs.declared.Complex.{Complex}

infixl 20 ◌⊕◌
abbrev pub ◌⊕◌ : Float → Float → Float
x ⊕ y = Ieee.add binary64 x y

infixl 20 ◌⊖◌
abbrev pub ◌⊖◌ : Float → Float → Float
x ⊖ y = Ieee.sub binary64 x y

infixl 30 ◌⊗◌
abbrev pub ◌⊗◌ : Float → Float → Float
x ⊗ y = Ieee.mul binary64 x y

infixl 30 ◌⊘◌
abbrev pub ◌⊘◌ : Float → Float → Float
x ⊘ y = Ieee.div binary64 x y

-- + and - go part by part
unfoldable pub plus : Complex → Complex → Complex
plus x y = record { re = x.re ⊕ y.re; im = x.im ⊕ y.im }

unfoldable pub minus : Complex → Complex → Complex
minus x y = record { re = x.re ⊖ y.re; im = x.im ⊖ y.im }

-- (a+bi)(c+di) has parts a*c - b*d and a*d + b*c
unfoldable pub times : Complex → Complex → Complex
times x y =
    let a = x.re in
    let b = x.im in
    let c = y.re in
    let d = y.im in
    record { re = a ⊗ c ⊖ b ⊗ d; im = a ⊗ d ⊕ b ⊗ c }

-- n = c*c + d*d; parts (a*c + b*d)/n and (b*c - a*d)/n
unfoldable pub over : Complex → Complex → Complex
over x y =
    let a = x.re in
    let b = x.im in
    let c = y.re in
    let d = y.im in
    let n = c ⊗ c ⊕ d ⊗ d in
    record { re = (a ⊗ c ⊕ b ⊗ d) ⊘ n; im = (b ⊗ c ⊖ a ⊗ d) ⊘ n }

-- negation negates both parts
unfoldable pub negated : Complex → Complex
negated x = record { re = Ieee.neg x.re; im = Ieee.neg x.im }
