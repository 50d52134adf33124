-- The first values of a function, as a list, and keys that ascend in a table of words. Only connecting.
use Rattle.std.specs.Prelude.{ℕ, zero, suc, ◌+◌, ◌*◌, ◌≤◌, ◌<◌, ◌≡◌, List, [], ◌∷◌, Bool, true, false, get_or, eqb, Option, Some, None}

-- the first n values of a function
unfoldable pub up_to : {A : Type 0} → ℕ → (ℕ → A) → List A
up_to zero f = []
up_to (suc n) f = f zero ∷ up_to n (λ j. f (suc j))

-- the key of row j, where rows of `step` words stand from `from` on, the key first
abbrev pub key_at : List ℕ → (from step : ℕ) → ℕ → ℕ
key_at t from step j = get_or t (step * j + from) 0

pub record Ascends (key : ℕ → ℕ) (n : ℕ) : Type 0 where
  pub each : (j : ℕ) → j + 1 < n → key j < key (j + 1)

-- r is the first of `count` that passes, or `count`
pub record First (test : ℕ → Bool) (count r : ℕ) : Type 0 where
  pub within : r ≤ count
  pub hit : r < count → test r ≡ true
  pub before : (j : ℕ) → j < r → test j ≡ false

-- the same by the number of a row, if there is one: none says that none passes
abbrev pub FirstOf : (test : ℕ → Bool) (count : ℕ) → Option ℕ → Type 0
FirstOf test count (Some j) = (j < count) × First test count j
FirstOf test count None = (j : ℕ) → j < count → test j ≡ false

abbrev pub holds : (ℕ → ℕ) → ℕ → ℕ → Bool
holds keys key j = eqb key (keys j)
