-- The work memory that a caller lends: rows, a desk and a table. Definitions only.
use Rattle.std.specs.Prelude.{ℕ, min, List, length, replicate}
use Rattle.memory.specs.Layout.{desk_words}
use Rattle.memory.specs.Rows.{blank}

pub record Work : Type 0 where
  pub store : List (List ℕ)
  pub desk : List ℕ
  pub table : List ℕ

abbrev pub work : (store : List (List ℕ)) (desk table : List ℕ) → Work
work store desk table = record { store = store; desk = desk; table = table }

-- "The store's capacity is the shortest work slice, at most 4096": one slice has all rows
abbrev pub capacity : Work → ℕ
capacity w = min (length w.store) 4096

-- "every return leaves the work memory zero": each row, all words of the desk, and the table, over its whole length
unfoldable pub zeroed : Work → Work
zeroed w = record { store = replicate (length w.store) blank; desk = replicate desk_words 0; table = replicate (length w.table) 0 }
