-- What the reducer prints is determined, for every text: two answers that its contract allows are the same bytes, and as many. Assumes nothing.
use mathlib.Core.Path.{◌≡◌, sym, ap, ◌∙◌}
use Prim.Native.Nat.{ℕ}
use mathlib.Core.List.{List}
use lib.ListN.{length, take}
use Rattle.io.specs.Counts.{IsPrefixLen}
use Rattle.console.proofs.Parts.{every_text}
use Rattle.reduce.specs.Reducing.{Reduces}

module _ {text out out₁ out₂ : List ℕ} {room r₁ r₂ : ℕ} (a : Reduces room text out r₁ out₁) (b : Reduces room text out r₂ out₂) where
  pub one_reduction : take r₁ out₁ ≡ take r₂ out₂
  one_reduction = let p = every_text text in a.bytes p.place p.parted ∙ sym (b.bytes p.place p.parted)

  -- the answer: how many bytes are printed, by the clause `within`
  pub one_count : IsPrefixLen r₁ out₁ → IsPrefixLen r₂ out₂ → r₁ ≡ r₂
  one_count c d = c.1 ∙ ap length one_reduction ∙ sym d.1
