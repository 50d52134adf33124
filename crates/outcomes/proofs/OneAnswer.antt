-- What is printed of an outcome is determined: two answers that the contract of `print` allows are the same bytes, and as many. Assumes nothing.
use mathlib.Core.Path.{◌≡◌, sym, ap, ◌∙◌}
use Prim.Native.Nat.{ℕ}
use mathlib.Core.List.{List}
use lib.ListN.{length, take}
use Rattle.outcomes.specs.declared.Outcome.{Outcome}
use Rattle.outcomes.specs.Coming.{Prints, Stands}

pub one_print : {out out₁ out₂ : List ℕ} {outcome : Outcome} {n₁ n₂ : ℕ} → Prints out outcome n₁ out₁ → Prints out outcome n₂ out₂
    → (take n₁ out₁ ≡ take n₂ out₂) × (n₁ ≡ n₂)
one_print a b = let e = a.bytes ∙ sym b.bytes in (e, a.within.1 ∙ ap length e ∙ sym b.within.1)

-- and so is what stands at the start of an output after `print_marked` and after `say_traced`
pub one_start : {bytes out₁ out₂ : List ℕ} {n₁ n₂ : ℕ} → Stands bytes n₁ out₁ → Stands bytes n₂ out₂ → (take n₁ out₁ ≡ take n₂ out₂) × (n₁ ≡ n₂)
one_start a b = let e = a.are ∙ sym b.are in (e, a.within.1 ∙ ap length e ∙ sym b.within.1)
