-- 01's example of the reducer, from the table of examples of `calls`: the whole output, for the text as it is read. Assumes nothing.
use mathlib.Core.Path.{◌≡◌, refl, ap, ◌∙◌}
use mathlib.Core.Bool.{Bool, true, false, cond, ◌&&◌}
use mathlib.Core.List.{List, [], ◌∷◌}
use Prim.Native.Nat.{ℕ, zero, suc, ◌≤◌, ◌<◌}
use native.Mathlib.Omega.{arith}
use borrow.Author.Tests.{eq-eqb}
use lib.Dec.{T, eqb}
use lib.ListN.{length, take, get_or}
use Rattle.text.specs.Letters.{bytes}
use Rattle.calls.proofs.Examples.{Shown, proved_examples}
use Rattle.console.specs.Parting.{Parted}
use Rattle.reduce.specs.Reducing.{printed, reduction, Reduces}

-- "Input `v·0`, `v·1`, `b·-·0·1`, `b·-·2·1`; whole output `v·0`"
abbrev pub input : List ℕ
input = bytes "v\t0\nv\t1\nb\t-\t0\t1\nb\t-\t2\t1\n"

abbrev pub output : List ℕ
output = bytes "v\t0\n"

-- ---- no line of the input is empty, so that all of it is the listing

-- no line feed follows on a line feed, in a text after a byte
filled : (before : ℕ) → List ℕ → Bool
filled before [] = true
filled before (b ∷ bs) = cond (eqb before 10 && eqb b 10) false (filled b bs)

filled_after : (empty rest : Bool) → T (cond empty false rest) → T rest
filled_after true rest t = absurd t
filled_after false rest t = t

none_empty : (before : ℕ) (bs : List ℕ) → T (filled before bs) → (place : ℕ) → place < length bs
    → (get_or (before ∷ bs) place 0 ≡ 10) × (get_or bs place 0 ≡ 10) → ⊥
unfolding filled
none_empty before [] t place h e = omega (arith, h)
none_empty before (b ∷ bs) t zero h e = rw (eq-eqb before 10 e.0, eq-eqb b 10 e.1) at t
none_empty before (b ∷ bs) t (suc place) h e = none_empty b bs (filled_after (eqb before 10 && eqb b 10) (filled b bs) t) place (omega (arith, h)) e

pub input_parted : Parted input (length input)
unfolding filled
input_parted = record { counts = (omega arith, refl); without = none_empty 10 input tt; followed = λ h. absurd (omega (arith, h)) }

-- ---- what is printed, into an output that has room for it

-- the tenth row of the table
simplified : Shown (record { list = input; limit = 10; result = output; calls = 11 })
simplified = proved_examples.1.1.1.1.1.1.1.1.1.0

pub example_reduction : (out : List ℕ) → length output ≤ length out → reduction 4096 input out (length input) ≡ output
unfolding reduction printed
example_reduction out room = ap (λ answer. printed answer.0 answer.1) (simplified out room)

-- so says the contract of `reduce` for the bytes that the program prints
pub example_reduced : {out out' : List ℕ} {r : ℕ} → length output ≤ length out → Reduces 4096 input out r out' → take r out' ≡ output
example_reduced {out} room reduces = reduces.bytes (length input) input_parted ∙ example_reduction out room
