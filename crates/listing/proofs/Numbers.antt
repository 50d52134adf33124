-- What a negated test says, which the needs of this crate cite. Assumes nothing.
use mathlib.Core.Path.{◌≡◌, refl, sym}
use mathlib.Core.Bool.{Bool, true, false, not}

pub unsaid : (b : Bool) → not b ≡ true → b ≡ false
unsaid true e = sym e
unsaid false e = refl

pub said : (b : Bool) → not b ≡ false → b ≡ true
said true e = refl
said false e = sym e
