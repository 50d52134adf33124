-- The first word, byte by byte. Assumes nothing.
use mathlib.Core.Path.{◌≡◌, refl, sym, ap, ◌∙◌}
use mathlib.Core.List.{List, [], ◌∷◌, ◌++◌, append_assoc, append-nil}
use Prim.Native.Nat.{ℕ, suc, ◌+◌, ◌≤◌, ◌<◌}
use native.Mathlib.Omega.{arith}
use lib.ListN.{length, get_or, take, drop, drop_of_length-le}
use lib.Seq.{take-suc, length-take-le}
use borrow.Author.Tests.{eq-eqb, ne_eqb}
use Rattle.io.specs.Counts.{IsPrefixLen}
use Rattle.text.proofs.Running.{here}
use Rattle.commands.specs.Words.{first_of}

-- the bytes before this place are of the first word
pub record Within (words : List ℕ) (i : ℕ) : Type 0 where
  pub inside : i ≤ length words
  pub whole : first_of words ≡ take i words ++ first_of (drop i words)

pub begun : (words : List ℕ) → Within words 0
begun words = record { inside = omega arith; whole = refl }

module _ {words : List ℕ} {i : ℕ} (w : Within words i) (h : i < length words) where
  pub goes_on : (get_or words i 0 ≡ 10 → ⊥) → Within words (i + 1)
  unfolding first_of
  goes_on n =
      let z : suc i ≡ i + 1 = omega arith in
      record {
        inside = omega (arith, h);
        whole =
            w.whole ∙ ap (λ l. take i words ++ first_of l) (here words i h)
            ∙ rw (ne_eqb (get_or words i 0) 10 n) (sym (append_assoc (take i words) (get_or words i 0 ∷ []) (first_of (drop (i + 1) words))))
            ∙ ap (λ l. l ++ first_of (drop (i + 1) words)) (sym (take-suc words i 0 h) ∙ ap (λ k. take k words) z);
      }

  pub ends : get_or words i 0 ≡ 10 → (take i words ≡ first_of words) × IsPrefixLen i words
  unfolding first_of
  ends e =
      (sym (w.whole ∙ ap (λ l. take i words ++ first_of l) (here words i h) ∙ rw (eq-eqb (get_or words i 0) 10 e, append-nil)), (w.inside, sym (length-take-le i words w.inside)))

pub all : {words : List ℕ} {i : ℕ} → Within words i → length words ≤ i → (take i words ≡ first_of words) × IsPrefixLen i words
unfolding first_of
all {words} {i} w h = (sym (w.whole ∙ rw (drop_of_length-le words {i = i} h, append-nil)), (w.inside, sym (length-take-le i words w.inside)))
