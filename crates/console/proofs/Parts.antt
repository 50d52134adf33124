-- A text parts at one place, and at one only; the sheet's part of it is one, with the place where it begins; and the bytes on either side of it.
-- Assumes nothing.
use mathlib.Core.Path.{◌≡◌, refl, sym, ap, subst, ◌∙◌}
use Prim.Native.Nat.{ℕ, zero, suc, ◌+◌, ◌-◌, ◌<◌, ◌≤◌, min}
use native.Mathlib.Omega.{arith}
use native.Mathlib.Decide.{dec_lt, ℕ_discrete}
use mathlib.Core.List.{List, [], ◌∷◌}
use mathlib.Core.Bool.{false, ◌&&◌}
use lib.Dec.{eqb}
use borrow.Author.Tests.{eq-eqb, ne_eqb}
use lib.ListN.{length, get_or, take, drop, length-drop}
use lib.Seq.{length-take-le, take_all, take-length}
use denote.Ref.{Bor}
use Rattle.text.specs.Reading.{lf}
use Rattle.console.specs.Parting.{EmptyLine, Parted, listing_after, sheet_after, listing_in, sheet_in}
use Rattle.console.specs.Slices.{SheetPart}

-- a place before another one at which the text parts has an empty line, which the other has passed
not_before : {text : List ℕ} {n m : ℕ} → Parted text n → Parted text m → n < m → ⊥
not_before {text} {n} {m} p q h = q.without n h (p.followed (omega (arith, h, q.counts.0)))

pub one_place : {text : List ℕ} {n m : ℕ} → Parted text n → Parted text m → n ≡ m
one_place {text} {n} {m} p q = elim (dec_lt n m) [
  | yes lt ↦ absurd (not_before p q lt)
  | no ge ↦ elim (dec_lt m n) [ yes gt ↦ absurd (not_before q p gt) | no le ↦ omega arith ]
]

-- ---- every text parts

pub record Somewhere (text : List ℕ) : Type 0 where
  pub place : ℕ
  pub parted : Parted text place

-- no empty line begins before this place
abbrev NoneBefore : (text : List ℕ) (k : ℕ) → Type 0
NoneBefore text k = (place : ℕ) → place < k → EmptyLine text place → ⊥

one_more : (text : List ℕ) (k : ℕ) → NoneBefore text k → (EmptyLine text k → ⊥) → NoneBefore text (suc k)
one_more text k none here place h x = elim (ℕ_discrete place k) [
  | yes e ↦ here (subst (λ p. EmptyLine text p) e x)
  | no n ↦ none place (omega arith) x
]

-- from a place that is passed on, with as many bytes left as the fuel says
parts_from : (text : List ℕ) (fuel k : ℕ) → fuel + k ≡ length text → NoneBefore text k → Somewhere text
parts_from text zero k e none = record {
  place = k;
  parted = record {
    counts = (omega (arith, e), sym (length-take-le k text (omega (arith, e))));
    without = none;
    followed = λ h. absurd (omega (arith, e, h));
  };
}
parts_from text (suc fuel) k e none = elim (ℕ_discrete (get_or (lf ∷ text) k 0) lf) [
  | yes a ↦ elim (ℕ_discrete (get_or text k 0) lf) [
    | yes b ↦ record {
      place = k;
      parted = record {
        counts = (omega (arith, e), sym (length-take-le k text (omega (arith, e))));
        without = none;
        followed = λ h. (a, b);
      };
    }
    | no b ↦ parts_from text fuel (suc k) (omega (arith, e)) (one_more text k none λ x. b x.1)
  ]
  | no a ↦ parts_from text fuel (suc k) (omega (arith, e)) (one_more text k none λ x. a x.0)
]

pub every_text : (text : List ℕ) → Somewhere text
every_text text = parts_from text (length text) 0 (omega arith) λ place h x. omega (arith, h)

-- ---- the part that `sheet_of` hands back: its bytes, and where they stand

pub one_sheet_part : {rest r r' : Bor (List ℕ)} → SheetPart rest r → SheetPart rest r' → (r.now ≡ r'.now) × (r.ref_ptr ≡ r'.ref_ptr)
one_sheet_part p q = let b = p.block ∙ sym q.block in let a = p.place ∙ sym q.place in (p.bytes ∙ sym q.bytes, λ i. (b i, a i))

-- ---- the parts are the bytes on either side of the place

-- what `Parted` says of the bytes from a place on, after the byte before it
record PartedAfter (before : ℕ) (bs : List ℕ) (n : ℕ) : Type 0 where
  without : (k : ℕ) → k < n → (get_or (before ∷ bs) k 0 ≡ lf) × (get_or bs k 0 ≡ lf) → ⊥
  followed : n < length bs → (get_or (before ∷ bs) n 0 ≡ lf) × (get_or bs n 0 ≡ lf)

not_both : (before b : ℕ) → ((before ≡ lf) × (b ≡ lf) → ⊥) → (eqb before lf && eqb b lf) ≡ false
not_both before b n = elim (ℕ_discrete before lf) [
  | yes e ↦ elim (ℕ_discrete b lf) [ yes o ↦ absurd (n (e, o)) | no o ↦ rw (eq-eqb before lf e, ne_eqb b lf o) ]
  | no e ↦ rw (ne_eqb before lf e)
]

parts_after : (before : ℕ) (bs : List ℕ) (n : ℕ) → n ≤ length bs → PartedAfter before bs n
    → (take n bs ≡ listing_after before bs) × (drop 1 (drop n bs) ≡ sheet_after before bs)
unfolding listing_after sheet_after
parts_after before [] zero h p = (refl, refl)
parts_after before [] (suc n) h p = absurd (omega (arith, h))
parts_after before (b ∷ bs) zero h p =
    let e = p.followed (omega arith) in
    rw (eq-eqb before lf e.0, eq-eqb b lf e.1) (refl, refl)
parts_after before (b ∷ bs) (suc n) h p =
    let rest = parts_after b bs n (omega (arith, h)) (record { without = λ k l. p.without (suc k) (omega (arith, l)); followed = λ l. p.followed (omega (arith, l)) }) in
    rw (not_both before b (p.without 0 (omega arith))) (ap (λ l. b ∷ l) rest.0, rest.1)

pub parted_in : {text : List ℕ} {n : ℕ} → Parted text n → (take n text ≡ listing_in text) × (drop 1 (drop n text) ≡ sheet_in text)
parted_in {text} {n} p = parts_after lf text n p.counts.0 (record { without = p.without; followed = p.followed })

-- ---- as many bytes as a text has

-- what follows on the first n bytes, whole
pub rest : (text : List ℕ) (n : ℕ) → take (length text - n) (drop n text) ≡ drop n text
rest text n = let short : length (drop n text) ≤ length text - n = simp length-drop (omega arith) in take_all _ _ short

-- a count that is cut to the length takes the same bytes
pub least_of : (n : ℕ) (out : List ℕ) → take (min n (length out)) out ≡ take n out
least_of n out = elim (dec_lt (length out) n) [
  | yes lt ↦
      let z : min n (length out) ≡ length out = omega arith in
      rw z (take-length out ∙ sym (take_all n out (omega arith)))
  | no ge ↦ let z : min n (length out) ≡ n = omega arith in rw z
]
