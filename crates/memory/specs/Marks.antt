-- The marks of a sheet's t rows: 256 numbers, one a row, 1 where the row was used and 0 where it was not. Definitions only.
use Rattle.std.specs.Prelude.{ℕ, List, [], ◌∷◌, set, replicate}

-- "the set of rows used as 256 marks"
abbrev pub most_marks : ℕ
most_marks = 256

unfoldable pub no_marks : List ℕ
no_marks = replicate most_marks 0

-- the rows of these numbers are marked
unfoldable pub noted : (rows : List ℕ) (marks : List ℕ) → List ℕ
noted [] marks = marks
noted (j ∷ js) marks = noted js (set marks j 1)

-- the marks that these rows leave
abbrev pub marks_of : (rows : List ℕ) → List ℕ
marks_of js = noted js no_marks
