-- Which refusal a printed line says: its number is the one that is read in it. Assumes nothing.
use mathlib.Core.Path.{◌≡◌, refl, sym, ap, ◌∙◌}
use mathlib.Core.List.{[], ◌∷◌, ◌++◌}
use Prim.Native.Nat.{ℕ, suc, ◌+◌, ◌<◌}
use native.Mathlib.Omega.{arith}
use lib.ListN.{get_or, drop}
use Rattle.expression.specs.declared.refusal.Refusal.{Refusal}
use Rattle.expression.specs.Refusals.{number_of, Carried, place, lacking, carries}
use Rattle.text.specs.Reading.{Read, is, bad, digit_of, decimal}
use Rattle.text.specs.Writing.{in_decimal, line}
use Rattle.text.proofs.RoundTrip.{decimal_reads}
use Rattle.console.specs.Answers.{refused_line, need_line, carried_line, refusal_line}

pub refused_first : (number at : ℕ) → get_or (refused_line number at) 0 0 ≡ 114
unfolding refused_line line
refused_first number at = refl

number_in : Read ℕ → ℕ
number_in (is n rest) = n
number_in bad = 0

number_reads : (limit number at : ℕ) → number < limit → number_in (decimal limit (drop 8 (refused_line number at))) ≡ number
unfolding refused_line line number_in digit_of
number_reads limit number at l = ap number_in (decimal_reads limit number 9 (in_decimal at ++ (10 ∷ [])) l (omega arith))

pub refused_number : (n m at k : ℕ) → refused_line n at ≡ refused_line m k → n ≡ m
refused_number n m at k e =
    sym (number_reads (suc (n + m)) n at (omega arith))
    ∙ ap (λ bs. number_in (decimal (suc (n + m)) (drop 8 bs))) e
    ∙ number_reads (suc (n + m)) m k (omega arith)

carried_number : (n m k : ℕ) (c : Carried) → carried_line n c ≡ refused_line m k → n ≡ m
unfolding carried_line need_line line
carried_number n m k (place at) e = refused_number n m at k e
carried_number n m k (lacking operation x y) e =
    let f : ◌≡◌ {A = ℕ} 110 114 = ap (λ bs. get_or bs 0 0) e ∙ refused_first m k in
    absurd (omega (arith, f))

-- a refusal that is printed as `refused·number·place` has this number
pub refusal_number : (why : Refusal) (number at : ℕ) → refusal_line why ≡ refused_line number at → number_of why ≡ number
refusal_number why number at e = carried_number (number_of why) number at (carries why) e
