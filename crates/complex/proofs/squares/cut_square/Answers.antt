-- `complex::squares::cut_square` meets its contract. Assumes nothing.
use Rattle.std.proofs.Common.{◌≡◌, ℕ, ◌-◌, ◌*◌, ◌/◌, ◌^◌, ◌<◌, ◌≤◌, sym, ap, ◌∙◌, two-mul, lt_of_lt_of_le, mul-le-mul, arith, pow-add, pow_mono}
use native.Mathlib.Nat.{div-eq_of_lt}
use Rattle.complex.proofs.Cut.{square_lt}
use Rattle.complex.proofs.squares.cut_square.Goals as goal

doubled : (k : ℕ) → 2 ^ (2 * k) ≡ 2 ^ k * 2 ^ k
doubled k = ap (λ (n : ℕ). 2 ^ n) (two-mul k) ∙ pow-add 2 k k

-- of 64 bits nothing is left 64 places or more below T's last one
nothing_left : (n k : ℕ) → n < 2 ^ 64 → 64 ≤ k → n * n / (2 ^ k * 2 ^ k) ≡ 0
nothing_left n k p h = div-eq_of_lt (lt_of_lt_of_le (square_lt n (2 ^ 64) p) (mul-le-mul (pow_mono {i = 64} {j = k} h) (pow_mono {i = 64} {j = k} h)))

pub returns-then-k-lt64 : goal.returns-then-k-lt64
returns-then-k-lt64 c =
    let n = c.args.part.significand in
    ap (λ (k : ℕ). n * n / 2 ^ (2 * k)) c.saturating_sub-k.ensures ∙ ap (λ (d : ℕ). n * n / d) (doubled (1041 - c.args.part.scale))

pub returns-else-k-lt64 : goal.returns-else-k-lt64
returns-else-k-lt64 c = sym (nothing_left c.args.part.significand (1041 - c.args.part.scale) (omega (arith, c)) (omega (arith, c.saturating_sub-k.ensures, c.if-k-lt64.false)))
