-- What rack prints and says is determined, for all words and every input: two answers that the contract of `answer` allows are the same bytes, and
-- as many. Assumes nothing.
use mathlib.Core.Path.{◌≡◌, sym, ap, ◌∙◌}
use Prim.Native.Nat.{ℕ}
use mathlib.Core.List.{List}
use lib.ListN.{length, take}
use Rattle.commands.specs.declared.Printed.{Printed}
use Rattle.io.specs.Counts.{IsPrefixLen}
use Rattle.commands.specs.declared.words.Asked.{Asked}
use Rattle.commands.specs.Words.{first_of}
use Rattle.commands.specs.Asking.{seen, AsksAll}
use Rattle.commands.specs.Printing.{Answers}

module _ {words input out out₁ out₂ said₁ said₂ : List ℕ} {r₁ r₂ : Printed} (a : Answers words input out r₁ out₁ said₁) (b : Answers words input out r₂ out₂ said₂) where
  pub one_output : take r₁.out out₁ ≡ take r₂.out out₂
  one_output = a.prints ∙ sym b.prints

  pub one_saying : take r₁.said said₁ ≡ take r₂.said said₂
  one_saying = a.says ∙ sym b.says

  -- the answer itself: how many bytes
  pub one_count : (r₁.out ≡ r₂.out) × (r₁.said ≡ r₂.said)
  one_count =
      (a.printed_within.1 ∙ ap length one_output ∙ sym b.printed_within.1, a.said_within.1 ∙ ap length one_saying ∙ sym b.said_within.1)

-- ---- the words

pub one_request : (words : List ℕ) (r₁ r₂ : Asked) → AsksAll words r₁ → AsksAll words r₂ → seen words r₁ ≡ seen words r₂
one_request words r₁ r₂ a b = a.0 ∙ sym b.0

pub one_first : (words : List ℕ) {r₁ r₂ : ℕ} → (take r₁ words ≡ first_of words) × IsPrefixLen r₁ words → (take r₂ words ≡ first_of words) × IsPrefixLen r₂ words → r₁ ≡ r₂
one_first words (a, c) (b, d) = c.1 ∙ ap length (a ∙ sym b) ∙ sym d.1
