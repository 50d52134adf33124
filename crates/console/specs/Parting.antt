-- Where a job's listing ends and its sheet begins. Definitions only.
use Rattle.std.specs.Prelude.{◌≡◌, ℕ, ◌<◌, List, [], ◌∷◌, cond, ◌&&◌, eqb, length, get_or}
use Rattle.io.specs.Counts.{IsPrefixLen}
use Rattle.text.specs.Reading.{lf}

-- at this place of a text stands a line feed that is a line by itself: the first byte, or one that follows on a line feed
abbrev pub EmptyLine : (text : List ℕ) (place : ℕ) → Type 0
EmptyLine text place = (get_or (lf ∷ text) place 0 ≡ lf) × (get_or text place 0 ≡ lf)

-- a listing of n bytes: no empty line begins in it, and one follows unless the text ends there
pub record Parted (text : List ℕ) (n : ℕ) : Type 0 where
  pub counts : IsPrefixLen n text
  pub without : (place : ℕ) → place < n → EmptyLine text place → ⊥
  pub followed : n < length text → EmptyLine text n

-- ---- the two parts, after the byte before them

-- the listing: the lines before the first empty one
unfoldable pub listing_after : (before : ℕ) → List ℕ → List ℕ
listing_after before [] = []
listing_after before (b ∷ bs) = cond (eqb before lf && eqb b lf) [] (b ∷ listing_after b bs)

-- the sheet: what follows on the line feed of that line
unfoldable pub sheet_after : (before : ℕ) → List ℕ → List ℕ
sheet_after before [] = []
sheet_after before (b ∷ bs) = cond (eqb before lf && eqb b lf) bs (sheet_after b bs)

-- of a whole text, which begins as a line does
abbrev pub listing_in : List ℕ → List ℕ
listing_in = listing_after lf

abbrev pub sheet_in : List ℕ → List ℕ
sheet_in = sheet_after lf
