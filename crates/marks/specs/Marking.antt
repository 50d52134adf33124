-- Which rows are marked, by their numbers, and the two lines that say it: the answer's, and the one for people. Definitions only.
use Rattle.std.specs.Prelude.{ℕ, suc, List, [], ◌∷◌, ◌++◌, cond, eqb}
use Rattle.text.specs.Letters.{letter, bytes}
use Rattle.text.specs.Reading.{tab, lf}
use Rattle.text.specs.Lines.{none}
use Rattle.text.specs.Writing.{in_decimal}

-- the numbers of the marks that are not 0, where the first mark has this number
unfoldable pub marked_from : (number : ℕ) (marks : List ℕ) → List ℕ
marked_from number [] = []
marked_from number (m ∷ ms) = cond (eqb m 0) (marked_from (suc number) ms) (number ∷ marked_from (suc number) ms)

-- t rows count from 0
abbrev pub marked : (marks : List ℕ) → List ℕ
marked marks = marked_from 0 marks

-- numbers in decimal, each after a separator
unfoldable pub each : (separator : ℕ) (numbers : List ℕ) → List ℕ
each separator [] = []
each separator (n ∷ ns) = (separator ∷ in_decimal n) ++ each separator ns

-- a head, the numbers after it, and the line's end
abbrev pub numbers_line : (head : List ℕ) (separator : ℕ) (numbers : List ℕ) → List ℕ
numbers_line head separator numbers = head ++ (each separator numbers ++ (lf ∷ []))

-- `marks` and the numbers, parted by tabs
abbrev pub marks_line : (marks : List ℕ) → List ℕ
marks_line marks = numbers_line (bytes "marks") tab (marked marks)

-- `rows used:` and the numbers, parted by spaces; nothing where no row is marked
abbrev pub used_line : (marks : List ℕ) → List ℕ
used_line marks = cond (none (marked marks)) [] (numbers_line (bytes "rows used:") (letter " ") (marked marks))
