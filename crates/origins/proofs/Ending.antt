-- The end of a node line: as before where no origin follows, what was read back where one does, and what a line's end tells of the text.
-- Assumes nothing.
use mathlib.Core.Path.{◌≡◌, refl, ap, ◌∙◌}
use mathlib.Core.List.{List, [], ◌∷◌, ◌++◌}
use Prim.Native.Nat.{ℕ, zero, suc, ◌≤◌, ◌<◌}
use native.Mathlib.Omega.{arith}
use native.Mathlib.Decide.{ℕ_discrete}
use lib.ListN.{get_or}
use lib.Dec.{eqb}
use borrow.Author.Tests.{eq-eqb, ne_eqb}
use Rattle.std.specs.Prelude.{Option, Some}
use Rattle.std.specs.Borrow.{Bor}
use Rattle.text.specs.Reading.{Read, is, bad, then, lf, ended, digit_of, run, spelt, decimal}
use Rattle.text.specs.Seen.{seen}
use Rattle.text.specs.Writing.{in_decimal}
use Rattle.text.proofs.Fields.{told}
use Rattle.text.proofs.Only.{never, ended_only, decimal_only}
use Rattle.text.proofs.RoundTrip.{decimal_reads, ended_here}
use Rattle.text.proofs.Shortening.{Resting, no_longer, Remains, rest_cond, rest_than, rest_then, rest_ended, rest_decimal_number, Shorter}
use Rattle.origins.specs.Fields.{most_origins, after_at, origin, line_end, origin_text}

-- ---- without an origin it is LF alone

pub end_bad : line_end bad ≡ bad
unfolding line_end
end_bad = refl

pub end_plain : (x : ℕ) (rest : List ℕ) → (get_or rest 0 0 ≡ 9 → ⊥) → line_end (is x rest) ≡ ended lf (is x rest)
unfolding line_end ended
end_plain x [] h = refl
end_plain x (b ∷ rest) h = rw (ne_eqb b 9 h)

-- what was read, and no tab after it
abbrev pub NoTab : Read ℕ → Type 0
NoTab (is x rest) = get_or rest 0 0 ≡ 9 → ⊥
NoTab bad = Unit {0}

pub end_as_before : (r : Read ℕ) → NoTab r → line_end r ≡ ended lf r
unfolding line_end ended
end_as_before (is x rest) h = end_plain x rest h
end_as_before bad h = refl

pub end_lf : (x : ℕ) (rest : List ℕ) → line_end (is x (10 ∷ rest)) ≡ is x rest
unfolding line_end
end_lf x rest = refl

-- ---- an origin that was written reads back

after_decimal : (bs : List ℕ) (n : ℕ) (rest : List ℕ) → decimal most_origins bs ≡ is n rest → after_at bs ≡ is (suc n) rest
unfolding after_at then decimal spelt run digit_of
after_decimal [] n rest e = never e
after_decimal (b ∷ bs) n rest e = elim (ℕ_discrete b 45) [
  | yes q ↦ never (rw q at e)
  | no o ↦ rw (ne_eqb b 45 o, e)
]

pub origin_reads : (o : ℕ) (rest : List ℕ) → o ≤ 1024 → origin (origin_text o ++ (10 ∷ rest)) ≡ is o (10 ∷ rest)
unfolding origin after_at origin_text digit_of
origin_reads zero rest h = refl
origin_reads (suc n) rest h = after_decimal (in_decimal n ++ (10 ∷ rest)) n (10 ∷ rest) (decimal_reads 1024 n 10 rest (omega (arith, h)) (omega arith))

pub end_field : (x o : ℕ) (rest : List ℕ) → o ≤ 1024 → line_end (is x (9 ∷ (origin_text o ++ (10 ∷ rest)))) ≡ is x rest
unfolding line_end then
end_field x o rest h = rw (origin_reads o rest h, ended_here 10 o rest)

-- ---- only what is written reads

after_only : (o : ℕ) (bs rest : List ℕ) → after_at bs ≡ is o rest → (o ≤ 1024) × (64 ∷ bs ≡ origin_text o ++ rest)
unfolding after_at origin_text then
after_only o [] rest e = never e
after_only o (b ∷ bs) rest e = elim (ℕ_discrete b 45) [
  | yes q ↦
      let f : is 0 bs ≡ is o rest = rw (eq-eqb b 45 q) at e in
      let u : 0 ≡ o = cc in
      let v : bs ≡ rest = cc in
      (omega (arith, u), rw (q, ← u, v))
  | no n ↦ go (decimal most_origins (b ∷ bs)) refl (rw (ne_eqb b 45 n) at e)
]
  where
    go : (r : Read ℕ) → decimal most_origins (b ∷ bs) ≡ r → then r (λ n rest. is (suc n) rest) ≡ is o rest → (o ≤ 1024) × (64 ∷ b ∷ bs ≡ origin_text o ++ rest)
    go (is n rest') q f =
        let u : suc n ≡ o = cc in
        let v : rest' ≡ rest = cc in
        let k = decimal_only 1024 n (b ∷ bs) rest' q in
        (omega (arith, u, k.0), rw (← u, ← v) (ap (λ (l : List ℕ). 64 ∷ l) k.1))
    go bad q f = never f

pub origin_only : (o : ℕ) (bs rest : List ℕ) → origin bs ≡ is o rest → (o ≤ 1024) × (bs ≡ origin_text o ++ rest)
unfolding origin
origin_only o [] rest e = never e
origin_only o (b ∷ bs) rest e = elim (ℕ_discrete b 64) [
  | yes q ↦ rw q (after_only o bs rest (rw (eq-eqb b 64 q) at e))
  | no n ↦ never (rw (ne_eqb b 64 n) at e)
]

-- what stands between what was read and the next line
pub data Tail (rest : List ℕ) (mid : List ℕ) : Type 0 where
  at_once : mid ≡ 10 ∷ rest → Tail rest mid
  after_origin : (o : ℕ) → o ≤ 1024 → mid ≡ 9 ∷ (origin_text o ++ (10 ∷ rest)) → Tail rest mid

pub record Ends (r : Read ℕ) (x : ℕ) (rest : List ℕ) : Type 0 where
  pub mid : List ℕ
  pub read : r ≡ is x mid
  pub tail : Tail rest mid

pub line_end_only : (r : Read ℕ) (x : ℕ) (rest : List ℕ) → line_end r ≡ is x rest → Ends r x rest
unfolding line_end then
line_end_only (is y []) x rest e = never e
line_end_only (is y (b ∷ bs)) x rest e = elim (ℕ_discrete b 9) [
  | no n ↦ elim (ℕ_discrete b 10) [
    | no m ↦ never (rw (ne_eqb b 9 n, ne_eqb b 10 m) at e)
    | yes q ↦
        let f : is y bs ≡ is x rest = rw (ne_eqb b 9 n, eq-eqb b 10 q) at e in
        let u : y ≡ x = cc in
        let v : bs ≡ rest = cc in
        record { mid = b ∷ bs; read = rw u; tail = at_once (rw (q, v)) }
  ]
  | yes q ↦ go (ended lf (origin bs)) refl (rw (eq-eqb b 9 q) at e) q
]
  where
    go : (r : Read ℕ) → ended lf (origin bs) ≡ r → then r (λ _ rest. is y rest) ≡ is x rest → b ≡ 9 → Ends (is y (b ∷ bs)) x rest
    go (is o rest') p f q =
        let u : y ≡ x = cc in
        let v : rest' ≡ rest = cc in
        let k = origin_only o bs (10 ∷ rest') (ended_only 10 (origin bs) o rest' p) in
        record { mid = b ∷ bs; read = rw u; tail = after_origin o k.0 (rw (q, ← v) (ap (λ l. 9 ∷ l) k.1)) }
    go bad p f q = never f
line_end_only bad x rest e = never e

-- ---- how the rest stands to the text

module _ {To : (bs rest : List ℕ) → Type 0} (w : Resting To) where
  rest_after : (bs : List ℕ) → Remains To bs (after_at bs)
  unfolding after_at
  rest_after [] = tt
  rest_after (b ∷ bs) =
      rest_cond To (b ∷ bs) (eqb b 45) (is 0 bs) _ (w.next b bs) (rest_then w (b ∷ bs) (decimal most_origins (b ∷ bs)) (λ n rest. is (suc n) rest) (rest_decimal_number w most_origins (b ∷ bs)) λ n rest. w.all rest)

  pub rest_origin : (bs : List ℕ) → Remains To bs (origin bs)
  unfolding origin
  rest_origin [] = tt
  rest_origin (b ∷ bs) = rest_cond To (b ∷ bs) (eqb b 64) (after_at bs) bad (rest_than w (b ∷ bs) bs (after_at bs) (w.next b bs) (rest_after bs)) tt

  pub rest_line_end : (bs : List ℕ) (r : Read ℕ) → Remains To bs r → Remains To bs (line_end r)
  unfolding line_end
  rest_line_end bs (is x []) h = tt
  rest_line_end bs (is x (b ∷ rest)) h =
      let l : To bs rest = w.after bs (b ∷ rest) rest h (w.next b rest) in
      rest_cond To bs (eqb b 9) _ _
      (rest_then w bs (ended lf (origin rest)) (λ _ after. is x after) (rest_than w bs rest (ended lf (origin rest)) l (rest_ended w lf rest (origin rest) (rest_origin rest))) λ _ after. w.all after)
      (rest_cond To bs (eqb b 10) (is x rest) bad l tt)
  rest_line_end bs bad h = tt

-- the rest is never longer
pub shorter_origin : (bs : List ℕ) → Shorter bs (origin bs)
shorter_origin = rest_origin no_longer

pub shorter_line_end : (bs : List ℕ) (r : Read ℕ) → Shorter bs r → Shorter bs (line_end r)
shorter_line_end = rest_line_end no_longer

-- ---- for those who read one field after another

-- the end of a line after what was wanted
pub line_ends : {want n m : Read ℕ} → m ≡ line_end n → n ≡ want → m ≡ line_end want
line_ends e r = e ∙ ap line_end r

-- a decimal number at the end of a line is below its limit
pub end_below : (limit : ℕ) (bs : List ℕ) {n : Option (ℕ × Bor (List ℕ))} {v : ℕ} {rest : Bor (List ℕ)} → seen n ≡ line_end (decimal limit bs) → n ≡ Some (v, rest) → v < limit
end_below limit bs r q = let k = line_end_only (decimal limit bs) _ _ (told r q) in (decimal_only limit _ bs _ k.read).0
