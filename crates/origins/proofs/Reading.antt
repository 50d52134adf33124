-- The field of an origin and the end of a node line, by the first byte. Assumes nothing.
use Rattle.std.proofs.Common.{◌≡◌, ℕ, suc, ◌+◌, List, [], ◌∷◌, length, refl, ◌∙◌, add-one, arith, eq-eqb, ne_eqb}
use Rattle.std.specs.List.{IsFirstAndRest}
use Rattle.text.specs.Reading.{is, bad, then, lf, ended, decimal}
use Rattle.origins.specs.Fields.{most_origins, after_at, origin, line_end}

-- ---- nothing is left

pub after_nothing : (s : List ℕ) → length s ≡ 0 → after_at s ≡ bad
unfolding after_at
after_nothing [] h = refl
after_nothing (b ∷ s) h = absurd (omega arith)

pub no_origin : (s : List ℕ) → length s ≡ 0 → origin s ≡ bad
unfolding origin
no_origin [] h = refl
no_origin (b ∷ s) h = absurd (omega arith)

pub no_end : (x : ℕ) (s : List ℕ) → length s ≡ 0 → line_end (is x s) ≡ bad
unfolding line_end
no_end x [] h = refl
no_end x (b ∷ s) h = absurd (omega arith)

module _ {s rest : List ℕ} {b : ℕ} (f : IsFirstAndRest s b rest) where
  -- ---- what stands after the `@`

  pub after_minus : b ≡ 45 → after_at s ≡ is 0 rest
  unfolding after_at
  after_minus q = rw (f.0, eq-eqb b 45 q)

  module _ (o : b ≡ 45 → ⊥) where
    after_number : after_at s ≡ then (decimal most_origins s) λ n rest. is (suc n) rest
    unfolding after_at
    after_number = rw (f.0, ne_eqb b 45 o)

    pub after_no_number : decimal most_origins s ≡ bad → after_at s ≡ bad
    unfolding then
    after_no_number q = after_number ∙ rw q

    pub after_some : {line : ℕ} {next : List ℕ} → decimal most_origins s ≡ is line next → after_at s ≡ is (line + 1) next
    unfolding then
    after_some {line} q = after_number ∙ rw (q, add-one line)

  -- ---- the field

  pub other_origin : (b ≡ 64 → ⊥) → origin s ≡ bad
  unfolding origin
  other_origin o = rw (f.0, ne_eqb b 64 o)

  pub origin_after : b ≡ 64 → origin s ≡ after_at rest
  unfolding origin
  origin_after q = rw (f.0, eq-eqb b 64 q)

  -- ---- the end of a line

  module _ (x : ℕ) where
    pub ends_at_lf : b ≡ 10 → line_end (is x s) ≡ is x rest
    unfolding line_end
    ends_at_lf q = rw (f.0, q)

    pub ends_nowhere : (b ≡ 10 → ⊥) → (b ≡ 9 → ⊥) → line_end (is x s) ≡ bad
    unfolding line_end
    ends_nowhere h o = rw (f.0, ne_eqb b 9 o, ne_eqb b 10 h)

    -- after a tab there is the origin, and it is ignored
    module _ (h : b ≡ 9) where
      pub ends_in_no_field : ended lf (origin rest) ≡ bad → line_end (is x s) ≡ bad
      unfolding line_end then
      ends_in_no_field q = rw (f.0, h, q)

      pub ends_in_field : {o : ℕ} {end : List ℕ} → ended lf (origin rest) ≡ is o end → line_end (is x s) ≡ is x end
      unfolding line_end then
      ends_in_field q = rw (f.0, h, q)
