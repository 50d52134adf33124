-- What is said of a listing with origins: for each line that has one, where it stood in the job. Definitions only.
use Rattle.std.specs.Prelude.{ℕ, suc, List, [], ◌∷◌, ◌++◌, Bool, true, false, cond, ◌&&◌, not, eqb, ltb}
use Rattle.text.specs.Letters.{letter, bytes}
use Rattle.text.specs.Reading.{Read, is, bad, lf, decimal}
use Rattle.text.specs.Writing.{in_decimal}
use Rattle.origins.specs.Fields.{most_origins}

abbrev pub stands_at : (job result : ℕ) → List ℕ
stands_at job result = bytes "line " ++ (in_decimal job ++ (bytes " of the job stands at line " ++ (in_decimal result ++ bytes " of the result\n")))

-- the number after the `@` of a line; `@-` says nothing, and a listing has at most 1024 lines
unfoldable pub told : (line : ℕ) → Read ℕ → List ℕ
told line (is n rest) = cond (ltb line most_origins) (stands_at n line) []
told line bad = []

-- the bytes of a listing, from this line on; `passed`: the line's `@` is behind
unfoldable pub standing_from : (line : ℕ) (passed : Bool) → List ℕ → List ℕ
standing_from line passed [] = []
standing_from line passed (b ∷ bs) =
    cond (eqb b lf) (standing_from (suc line) false bs)
    (cond (eqb b (letter "@") && not passed) (told line (decimal most_origins bs) ++ standing_from line true bs)
    (standing_from line passed bs))

abbrev pub standing : List ℕ → List ℕ
standing bs = standing_from 0 false bs
