-- A text line by line: what is known after each line, up to the last line or the first that is refused. Definitions only.
use Rattle.std.specs.Prelude.{ℕ, zero, suc, Bool, true, false, List, [], ◌∷◌, length}

-- a line: what is known after it, and the bytes after it; or why it is refused
pub data Line (S R : Type 0) : Type 0 where
  goes : S → List ℕ → Line S R
  stops : R → Line S R

-- a text
pub data Whole (S R : Type 0) : Type 0 where
  read : S → Whole S R
  refused : R → Whole S R

unfoldable pub after_line : {S R : Type 0} → Line S R → (S → List ℕ → Whole S R) → Whole S R
after_line (goes s rest) next = next s rest
after_line (stops why) next = refused why

-- the empty rest after the last LF is no line; any other rest has a first byte
unfoldable pub at_line : {S R : Type 0} → S → List ℕ → (ℕ → List ℕ → Whole S R) → Whole S R
at_line s [] next = read s
at_line s (b ∷ bs) next = next b bs

-- The lines that are left, each by its first byte and the bytes after that. `fuel` is the number of bytes that are left: a line has at least
-- one, so that it never runs out, and more of it changes nothing (proofs/Lining.antt, `more_changes_nothing`, `next_line_lem`).
unfoldable pub lines_by : {S R : Type 0} → (fuel : ℕ) → (line : S → ℕ → List ℕ → Line S R) → S → List ℕ → Whole S R
lines_by zero line s bs = read s
lines_by (suc fuel) line s bs = at_line s bs (λ b bs. after_line (line s b bs) (λ s bs. lines_by fuel line s bs))

unfoldable pub lines : {S R : Type 0} → (line : S → ℕ → List ℕ → Line S R) → S → List ℕ → Whole S R
lines line s bs = lines_by (length bs) line s bs

-- ---- what stood before a line

unfoldable pub none : {A : Type 0} → List A → Bool
none [] = true
none (x ∷ xs) = false

-- "ascending", "without repeats": above the last one, if there is any
unfoldable pub above_last : {A : Type 0} → (above : A → A → Bool) → List A → A → Bool
above_last above [] y = true
above_last above (x ∷ []) y = above x y
above_last above (x ∷ z ∷ zs) y = above_last above (z ∷ zs) y
