-- A sheet with one t row taken away, and what number each other row then has: for the laws that a row which is not used can be taken away
-- with no change of the answer. Definitions only; no contract cites them.
use Rattle.std.specs.Prelude.{ℕ, zero, suc, pred, List, [], ◌∷◌, cond, ltb}
use Rattle.sheet.specs.Rows.{Row, Rows, rows}

-- row j is taken away; where there is none, nothing
unfoldable pub without : (j : ℕ) → List Row → List Row
without j [] = []
without zero (r ∷ rs) = rs
without (suc j) (r ∷ rs) = r ∷ without j rs

-- only t rows have a number
abbrev pub without_row : (j : ℕ) → Rows → Rows
without_row j s = rows s.variables s.cells (without j s.functions)

-- the rows after row j move up
unfoldable pub renumbered : (j : ℕ) → ℕ → ℕ
renumbered j i = cond (ltb j i) (pred i) i
