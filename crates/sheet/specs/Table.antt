-- What a table of words holds, read as the rows of a sheet, when it is one, and how a row is added. Only connecting.
use Rattle.std.specs.Prelude.{ℕ, zero, suc, ◌+◌, ◌*◌, ◌/◌, ◌%◌, ◌≤◌, ◌<◌, ◌≡◌, List, ◌++◌, Bool, true, ◌&&◌, get_or, set, ltb, eqb, Option, Some, None, Result, Ok, Err}
use Rattle.std.specs.Borrow.{Bor}
use Rattle.complex.specs.declared.Complex.{Complex}
use Rattle.complex.specs.Bits.{bits_of, double_of, Canonical}
use Rattle.complex.specs.Constants.{of_parts}
use Rattle.expression.specs.declared.refusal.Refusal.{Refusal}
use Rattle.memory.specs.Keys.{up_to, key_at, Ascends, First}
use Rattle.text.specs.Lines.{Line, goes, stops, Whole, read, refused}
use Rattle.memory.specs.Layout.{table_words, cells_from, functions_from, numbered}
use Rattle.sheet.specs.declared.Counts.{Counts}
use Rattle.sheet.specs.declared.Used.{Used}
use Rattle.sheet.specs.declared.fields.Words.{Words}
use Rattle.sheet.specs.Rows.{Variable, variable, Cell, cell, Row, row, Rows, rows, most_variables, most_cells, most_functions, Lookup, found, missing, Numbered, at, nowhere}
use Rattle.expression.specs.Codes.{operation_of}
use Rattle.sheet.specs.Seen.{number_of}
use Rattle.sheet.specs.Index.{word_at, name_in, next_in, bucket_of, head_for, Leads}

-- ---- the rows of a table

abbrev pub number_at : List ℕ → ℕ → Complex
number_at t i = of_parts (get_or t i 0) (get_or t (i + 1) 0)

-- row j of each kind, where memory/specs/Layout says
abbrev pub variable_at : List ℕ → ℕ → Variable
variable_at t j = variable (get_or t (3 * j) 0) (number_at t (3 * j + 1))

-- region and index in one word
abbrev pub cell_at : List ℕ → ℕ → Cell
cell_at t j = cell (get_or t (2 * j + cells_from) 0 / 4294967296) (get_or t (2 * j + cells_from) 0 % 4294967296) (double_of (get_or t (2 * j + cells_from + 1) 0))

abbrev pub row_at : List ℕ → ℕ → Row
row_at t j = row (operation_of (name_in (word_at t j))) (number_at t (7 * j + functions_from + 1)) (number_at t (7 * j + functions_from + 3)) (number_at t (7 * j + functions_from + 5))

abbrev pub rows_of : List ℕ → Counts → Rows
rows_of t n = rows (up_to n.variables (variable_at t)) (up_to n.cells (cell_at t)) (up_to n.functions (row_at t))

-- the line that comes next
abbrev pub line_of : Counts → ℕ
line_of n = n.variables + (n.cells + n.functions)

-- ---- when a table holds a sheet

abbrev pub number_key : List ℕ → ℕ → ℕ
number_key t j = get_or t (3 * j) 0

abbrev pub pair_key : List ℕ → ℕ → ℕ
pair_key t = key_at t cells_from 2

-- a row's name is one of the five, and its operands' words are canonical
pub record Comparable (t : List ℕ) (j : ℕ) : Type 0 where
  pub named : (0 < name_in (word_at t j)) × (name_in (word_at t j) < 6)
  pub operands : (i : ℕ) → 7 * j + functions_from < i → i < 7 * j + functions_from + 5 → Canonical (get_or t i 0)

abbrev pub pair_matches : List ℕ → ℕ → Words → Bool
pair_matches t i w = eqb w.re (get_or t i 0) && eqb w.im (get_or t (i + 1) 0)

abbrev pub row_matches : List ℕ → (name : ℕ) → (x y : Words) → ℕ → Bool
row_matches t name x y j =
    eqb name (name_in (word_at t j)) && (pair_matches t (7 * j + functions_from + 1) x && pair_matches t (7 * j + functions_from + 3) y)

abbrev pub next_at : List ℕ → ℕ → ℕ
next_at t j = next_in (word_at t j)

-- the index of n rows: the first row for a name and operands, where there is one, is what the walk from the head of their bucket comes to
pub record Indexed (t : List ℕ) (n : ℕ) : Type 0 where
  pub leads : (name : ℕ) (x y : Words) (r : ℕ) → First (row_matches t name x y) n r → r < n → Leads (next_at t) (row_matches t name x y) (head_for t n (bucket_of name x y)) r

pub record Held (t : List ℕ) (n : Counts) : Type 0 where
  pub variables : n.variables ≤ most_variables
  pub cells : n.cells ≤ most_cells
  pub functions : n.functions ≤ most_functions
  pub numbers : Ascends (number_key t) n.variables
  pub pairs : Ascends (pair_key t) n.cells
  pub operands : (j : ℕ) → j < n.functions → Comparable t j
  pub index : Indexed t n.functions

-- ---- the answer of the reader

abbrev pub seen : List ℕ → Result Counts Refusal → Whole Rows Refusal
seen t (Ok n) = read (rows_of t n)
seen t (Err why) = refused why

-- a sheet that was read stands in the table
abbrev pub held_by : List ℕ → Result Counts Refusal → Type 0
held_by t (Ok n) = Held t n
held_by t (Err why) = Unit {0}

-- the same of one line
abbrev pub seen_step : (t : List ℕ) → Result (Counts × Bor (List ℕ)) Refusal → Line Rows Refusal
seen_step t (Ok (n, rest)) = goes (rows_of t n) rest.now
seen_step t (Err why) = stops why

abbrev pub held_after : List ℕ → (line : ℕ) → Result (Counts × Bor (List ℕ)) Refusal → Type 0
held_after t line (Ok (n, rest)) = Held t n × (line_of n ≡ line + 1)
held_after t line (Err why) = Unit {0}

pub record Takes (t : List ℕ) (n : Counts) (line : Line Rows Refusal) (r : Result (Counts × Bor (List ℕ)) Refusal) : Type 0 where
  pub answer : seen_step t r ≡ line
  pub held : held_after t (line_of n) r

-- ---- a row more

unfoldable pub with_number : List ℕ → ℕ → Words → List ℕ
with_number t i w = set (set t i (bits_of (double_of w.re))) (i + 1) (bits_of (double_of w.im))

unfoldable pub with_variable : List ℕ → (count number : ℕ) → Words → List ℕ
with_variable t count number value = with_number (set t (3 * count) number) (3 * count + 1) value

unfoldable pub with_cell : List ℕ → (count key real : ℕ) → List ℕ
with_cell t count key real = set (set t (2 * count + cells_from) key) (2 * count + cells_from + 1) (bits_of (double_of real))

unfoldable pub with_row : List ℕ → (count word : ℕ) → (x y value : Words) → List ℕ
with_row t count word x y value =
    with_number (with_number (with_number (set t (7 * count + functions_from) word) (7 * count + functions_from + 1) x) (7 * count + functions_from + 3) y) (7 * count + functions_from + 5) value

abbrev pub canonical_words : Words → Words
canonical_words w = record { re = bits_of (double_of w.re); im = bits_of (double_of w.im) }

-- from t to t' only the words from `low` to below `high` may differ
pub record Outside (t t' : List ℕ) (low high : ℕ) : Type 0 where
  pub below : (i : ℕ) → i < low → get_or t' i 0 ≡ get_or t i 0
  pub beyond : (i : ℕ) → high ≤ i → get_or t' i 0 ≡ get_or t i 0

-- row j is in t' what it is in t; the head that its first word has may differ
pub record Alike (t t' : List ℕ) (j : ℕ) : Type 0 where
  pub low : word_at t' j % 1048576 ≡ word_at t j % 1048576
  pub rest : (i : ℕ) → 7 * j + functions_from < i → i < 7 * j + functions_from + 7 → get_or t' i 0 ≡ get_or t i 0

-- t' has row n more than t, and has it in its index
pub record Entered (t t' : List ℕ) (n name : ℕ) (x y value : Words) : Type 0 where
  pub outside : Outside t t' functions_from table_words
  pub kept : (j : ℕ) → j < n → Alike t t' j
  pub there : row_at t' n ≡ row (operation_of name) (number_of x) (number_of y) (number_of value)
  pub comparable : Comparable t' n
  pub indexed : Indexed t n → Indexed t' (n + 1)

-- whether it may follow the last
unfoldable pub above : (ℕ → ℕ) → (count key : ℕ) → Bool
above keys zero key = true
above keys (suc k) key = ltb (keys k) key

abbrev pub variable_may : List ℕ → Counts → ℕ → Bool
variable_may t n number = eqb n.cells 0 && (eqb n.functions 0 && above (number_key t) n.variables number)

abbrev pub cell_may : List ℕ → Counts → ℕ → Bool
cell_may t n key = eqb n.functions 0 && above (pair_key t) n.cells key

-- ---- what is found

abbrev pub seen_found : Option Complex → Lookup
seen_found (Some z) = found z
seen_found None = missing

abbrev pub seen_found_row : Option (ℕ × Complex) → Numbered
seen_found_row (Some (j, z)) = at j z
seen_found_row None = nowhere

-- its number is one of 256
abbrev pub FewRows : Option (ℕ × Complex) → Type 0
FewRows (Some (j, z)) = j < most_functions
FewRows None = Unit {0}

-- the rows that an operation used, by their numbers
abbrev pub used_in : Used → List ℕ
used_in u = numbered u.first ++ numbered u.second

abbrev pub words_of : Complex → Words
words_of x = record { re = bits_of x.re; im = bits_of x.im }
