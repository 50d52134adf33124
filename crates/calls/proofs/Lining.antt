-- What holds after each line of a text holds at its end, and what holds of each refusal of a line holds of the text's. Assumes nothing.
use mathlib.Core.List.{List, [], ◌∷◌}
use Prim.Native.Nat.{ℕ, zero, suc}
use Rattle.text.specs.Lines as Lines
use lib.ListN.{length}
use Rattle.text.specs.Lines.{Line, goes, stops, Whole, after_line, at_line, lines_by, lines}

module _ {S R : Type 0} (P : S → Type 0) (Q : R → Type 0) where
  unfoldable pub LineHas : Line S R → Type 0
  LineHas (goes s rest) = P s
  LineHas (stops why) = Q why

  unfoldable pub WholeHas : Whole S R → Type 0
  WholeHas (Lines.read s) = P s
  WholeHas (Lines.refused why) = Q why

  after : (l : Line S R) (next : S → List ℕ → Whole S R) → LineHas l → ((s : S) (bs : List ℕ) → P s → WholeHas (next s bs)) → WholeHas (after_line l next)
  unfolding after_line LineHas WholeHas
  after (goes s rest) next x f = f s rest x
  after (stops why) next x f = x

  with_fuel : (line : S → ℕ → List ℕ → Line S R) → ((s : S) (b : ℕ) (bs : List ℕ) → P s → LineHas (line s b bs))
      → (fuel : ℕ) (s : S) (bs : List ℕ) → P s → WholeHas (lines_by fuel line s bs)
  unfolding lines_by at_line WholeHas
  with_fuel line f zero s bs x = x
  with_fuel line f (suc fuel) s [] x = x
  with_fuel line f (suc fuel) s (b ∷ bs) x = after (line s b bs) (λ s bs. lines_by fuel line s bs) (f s b bs x) λ s bs y. with_fuel line f fuel s bs y

  pub by_lines : (line : S → ℕ → List ℕ → Line S R) → ((s : S) (b : ℕ) (bs : List ℕ) → P s → LineHas (line s b bs)) → (s : S) (bs : List ℕ) → P s → WholeHas (lines line s bs)
  unfolding lines
  by_lines line f s bs x = with_fuel line f (length bs) s bs x

-- where nothing is asked of a refusal
module _ {S R : Type 0} (P : S → Type 0) where
  abbrev pub InLine : Line S R → Type 0
  InLine = LineHas P (λ _. Unit {0})

  abbrev pub InWhole : Whole S R → Type 0
  InWhole = WholeHas P (λ _. Unit {0})

  pub to_the_end : (line : S → ℕ → List ℕ → Line S R) → ((s : S) (b : ℕ) (bs : List ℕ) → P s → InLine (line s b bs)) → (s : S) (bs : List ℕ) → P s → InWhole (lines line s bs)
  to_the_end = by_lines P (λ _. Unit {0})
