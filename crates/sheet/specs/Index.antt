-- The index of the function values: chains of rows whose names and operands fall in one bucket, the newest first, in the first word of
-- each row. Only connecting.
use Rattle.std.specs.Prelude.{ℕ, ◌+◌, ◌-◌, ◌*◌, ◌/◌, ◌%◌, min, ◌≡◌, List, Bool, true, false, cond, get_or, ltb, eqb, Option, Some, None}
use Rattle.memory.specs.Layout.{functions_from}
use Rattle.sheet.specs.declared.fields.Words.{Words}

-- the first word of row j
abbrev pub word_at : List ℕ → ℕ → ℕ
word_at t j = get_or t (7 * j + functions_from) 0

-- its fields: the number of the row's name, the next row of its chain, the bucket that is its home, and the head of bucket j. Heads and
-- nexts are numbers of rows plus one; 0 says none
abbrev pub name_in : ℕ → ℕ
name_in w = w % 8

abbrev pub next_in : ℕ → ℕ
next_in w = w / 8 % 512

abbrev pub home_in : ℕ → ℕ
home_in w = w / 4096 % 256

abbrev pub head_in : ℕ → ℕ
head_in w = w / 1048576

-- a row as a word has it
abbrev pub link_of : Option ℕ → ℕ
link_of None = 0
link_of (Some j) = j + 1

-- the word of a new row: the head in it stays
unfoldable pub linked : (w name next home : ℕ) → ℕ
linked w name next home = name % 8 + 8 * (next % 512) + 4096 * (home % 256) + 1048576 * (w / 1048576)

-- the word with another head: the rest stays
unfoldable pub headed : (w head : ℕ) → ℕ
headed w head = w % 1048576 + 1048576 * (head % 512)

-- a word more in a hash; the numbers only spread the keys
unfoldable pub spread : (hash word by : ℕ) → ℕ
spread hash word by =
    ((word % 4294967296 + hash) % 4294967296 + 1) * ((word / 4294967296 + by) % 2147483648 + 2147483648) / 4294967296
    + ((word % 4294967296 + hash) % 4294967296 + 1) * ((word / 4294967296 + by) % 2147483648 + 2147483648) % 4294967296

-- one of 256 buckets
unfoldable pub bucket_of : (name : ℕ) (x y : Words) → ℕ
bucket_of name x y =
    spread (spread (spread (spread (name % 8 * 668265263) x.re 1779033703) x.im 1013904243) y.re 1359893119) y.im 528734635
    % 4294967296 * 2246822519 % 4294967296 / 16777216

-- the head of a bucket, of n rows: a number counts that is a row's, plus one, whose home is this bucket. So nothing has to be cleared
-- before the first row comes
unfoldable pub counting : (n head home b : ℕ) → ℕ
counting n head home b = cond (ltb n head) 0 (cond (eqb home b) head 0)

abbrev pub head_for : List ℕ → (n b : ℕ) → ℕ
head_for t n b = counting n (head_in (word_at t b)) (home_in (word_at t (head_in (word_at t b) - 1))) b

-- a walk that starts at row at - 1 comes to row r before any other that passes; a next that is no row before counts as the row itself
pub data Leads (next : ℕ → ℕ) (test : ℕ → Bool) : (at r : ℕ) → Type 0 where
  hits : {at r : ℕ} → at ≡ r + 1 → test r ≡ true → Leads next test at r
  steps : {at r : ℕ} (k : ℕ) → at ≡ k + 1 → test k ≡ false → Leads next test (min (next k) k) r → Leads next test at r
