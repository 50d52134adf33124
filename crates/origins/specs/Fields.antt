-- The field that says where a node came from: `@` and the number of a line, or `@-`. An origin is a number plus one, and 0 says none.
-- Definitions only.
use Rattle.std.specs.Prelude.{ℕ, zero, suc, List, [], ◌∷◌, cond, eqb}
use Rattle.text.specs.Letters.{letter, bytes}
use Rattle.text.specs.Reading.{Read, is, bad, then, tab, lf, ended, decimal}
use Rattle.text.specs.Writing.{in_decimal}

-- "the number, 0 to 1023"
abbrev pub most_origins : ℕ
most_origins = 1024

-- ---- reading

-- what stands after the `@`
unfoldable pub after_at : List ℕ → Read ℕ
after_at [] = bad
after_at (b ∷ bs) = cond (eqb b (letter "-")) (is 0 bs) (then (decimal most_origins (b ∷ bs)) λ n rest. is (suc n) rest)

-- "`@` and the number, 0 to 1023, or `@-`"
unfoldable pub origin : List ℕ → Read ℕ
origin [] = bad
origin (b ∷ bs) = cond (eqb b (letter "@")) (after_at bs) bad

-- the end of a node line, after its last field: LF; or a tab, the origin and LF: "the reader accepts the field there and ignores it"
unfoldable pub line_end : Read ℕ → Read ℕ
line_end (is x []) = bad
line_end (is x (b ∷ rest)) = cond (eqb b tab) (then (ended lf (origin rest)) λ _ rest. is x rest) (cond (eqb b lf) (is x rest) bad)
line_end bad = bad

-- ---- writing

unfoldable pub origin_text : ℕ → List ℕ
origin_text zero = bytes "@-"
origin_text (suc n) = letter "@" ∷ in_decimal n
