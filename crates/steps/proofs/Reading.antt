-- The number that bytes spell, at a place of a tape and piece by piece. Assumes nothing.
use mathlib.Core.Path.{◌≡◌, refl, ap, ◌∙◌}
use mathlib.Core.List.{List, [], ◌∷◌}
use Prim.Native.Nat.{ℕ, suc, ◌+◌, ◌-◌, ◌*◌, ◌<◌, ◌≤◌}
use native.Mathlib.Omega.{arith}
use Rattle.std.specs.Int.{w16, w32, w64, from_le_bytes}
use Rattle.std.proofs.lemmas.List.{length-take-le}
use lib.ListN.{length, get_or, take, drop, length-drop}
use lib.Seq.{drop-drop}
use Rattle.text.proofs.Running.{here}
use Rattle.steps.specs.Steps.{fields, spelt, first, fields_in}

-- the byte at a place, and the bytes after it
pub first_more : (k : ℕ) (s : List ℕ) (at : ℕ) → at < length s → first (suc k) (drop at s) ≡ get_or s at 0 + 256 * first k (drop (at + 1) s)
unfolding first spelt
first_more k s at l = rw (here s at l) refl

pub first_none : (bs : List ℕ) → first 0 bs ≡ 0
unfolding first spelt
first_none bs = refl

-- ---- the library reads as many bytes as they spell

pub two_spelt : (bs : List ℕ) → length bs ≡ 2 → from_le_bytes w16 bs ≡ spelt bs
unfolding spelt
two_spelt [] l = absurd (omega (arith, l))
two_spelt (a ∷ []) l = absurd (omega (arith, l))
two_spelt (a ∷ b ∷ []) l = omega arith
two_spelt (a ∷ b ∷ c ∷ r) l = absurd (omega (arith, l))

pub four_spelt : (bs : List ℕ) → length bs ≡ 4 → from_le_bytes w32 bs ≡ spelt bs
unfolding spelt
four_spelt [] l = absurd (omega (arith, l))
four_spelt (a ∷ []) l = absurd (omega (arith, l))
four_spelt (a ∷ b ∷ []) l = absurd (omega (arith, l))
four_spelt (a ∷ b ∷ c ∷ []) l = absurd (omega (arith, l))
four_spelt (a ∷ b ∷ c ∷ d ∷ []) l = omega arith
four_spelt (a ∷ b ∷ c ∷ d ∷ e ∷ r) l = absurd (omega (arith, l))

pub eight_spelt : (bs : List ℕ) → length bs ≡ 8 → from_le_bytes w64 bs ≡ spelt bs
unfolding spelt
eight_spelt [] l = absurd (omega (arith, l))
eight_spelt (a ∷ []) l = absurd (omega (arith, l))
eight_spelt (a ∷ b ∷ []) l = absurd (omega (arith, l))
eight_spelt (a ∷ b ∷ c ∷ []) l = absurd (omega (arith, l))
eight_spelt (a ∷ b ∷ c ∷ d ∷ []) l = absurd (omega (arith, l))
eight_spelt (a ∷ b ∷ c ∷ d ∷ e ∷ []) l = absurd (omega (arith, l))
eight_spelt (a ∷ b ∷ c ∷ d ∷ e ∷ f ∷ []) l = absurd (omega (arith, l))
eight_spelt (a ∷ b ∷ c ∷ d ∷ e ∷ f ∷ g ∷ []) l = absurd (omega (arith, l))
eight_spelt (a ∷ b ∷ c ∷ d ∷ e ∷ f ∷ g ∷ h ∷ []) l = omega arith
eight_spelt (a ∷ b ∷ c ∷ d ∷ e ∷ f ∷ g ∷ h ∷ i ∷ r) l = absurd (omega (arith, l))

-- of the bytes from a place on, k were read
module _ (k : ℕ) (read : List ℕ → ℕ) (spells : (bs : List ℕ) → length bs ≡ k → read bs ≡ spelt bs) where
  pub read_first : (s : List ℕ) (at : ℕ) {bytes : List ℕ} {r : ℕ} → at + k ≤ length s → r ≡ read bytes → bytes ≡ take (at + k - at) (drop at s) → r ≡ first k (drop at s)
  unfolding first
  read_first s at {bytes} l p q =
      let e : bytes ≡ take k (drop at s) = q ∙ ap (λ n. take n (drop at s)) (omega arith) in
      p ∙ ap read e ∙ spells _ (length-take-le k (drop at s) (omega (arith, length-drop at s)))

-- the six fields of the bytes from a place on
pub fields_at : (s : List ℕ) (at : ℕ) {half word re im : ℕ} → at + 24 ≤ length s → half ≡ first 2 (drop (at + 2) s) → word ≡ first 4 (drop (at + 4) s)
    → re ≡ first 8 (drop (at + 8) s) → im ≡ first 8 (drop (at + 16) s) → fields (get_or s at 0) (get_or s (at + 1) 0) half word re im ≡ fields_in (drop at s)
unfolding fields_in
fields_at s at l a b c d =
    let p : get_or s at 0 ≡ first 1 (drop at s) = omega (arith, first_more 0 s at (omega (arith, l)), first_none (drop (at + 1) s)) in
    let q : get_or s (at + 1) 0 ≡ first 1 (drop (at + 1) s) = omega (arith, first_more 0 s (at + 1) (omega (arith, l)), first_none (drop (at + 1 + 1) s)) in
    rw (drop-drop 1 at s, drop-drop 2 at s, drop-drop 4 at s, drop-drop 8 at s, drop-drop 16 at s) λ i. fields (p i) (q i) (a i) (b i) (c i) (d i)
