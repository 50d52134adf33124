-- A listing without the fields that say where its nodes came from: what the reader makes of one. Definitions only.
use Rattle.std.specs.Prelude.{ℕ, List, [], ◌∷◌, Bool, true, false, cond, ◌&&◌, eqb}
use Rattle.text.specs.Letters.{letter}
use Rattle.text.specs.Reading.{Read, is, bad, tab, lf, ended}
use Rattle.origins.specs.Fields.{origin}

-- where in a line: at its first byte; in a node line, with no `@` so far; in what stays as it is, an s line or what stands after an `@`; in a field
-- that goes
pub data Where : Type 0 where
  start : Where
  node : Where
  kept : Where
  dropped : Where

-- a whole field: an origin, and LF after it
unfoldable pub whole_field : Read ℕ → Bool
whole_field (is o rest) = true
whole_field bad = false

-- after a byte that is no LF, with these bytes behind it: a tab before a whole field goes with it; the first byte of a line stays
unfoldable pub in_line : Where → (b : ℕ) → (behind : List ℕ) → Where
in_line start b behind = cond (eqb b (letter "s")) kept node
in_line node b behind = cond (eqb b tab && whole_field (ended lf (origin behind))) dropped (cond (eqb b (letter "@")) kept node)
in_line kept b behind = kept
in_line dropped b behind = dropped

unfoldable pub passing : Where → (b : ℕ) → (behind : List ℕ) → Where
passing w b behind = cond (eqb b lf) start (in_line w b behind)

-- a byte stays, or goes if it led into a field that goes or stands in it
unfoldable pub left : Where → ℕ → List ℕ → List ℕ
left start b bs = b ∷ bs
left node b bs = b ∷ bs
left kept b bs = b ∷ bs
left dropped b bs = bs

unfoldable pub without : Where → List ℕ → List ℕ
without w [] = []
without w (b ∷ bs) = left (passing w b bs) b (without (passing w b bs) bs)

-- So a line with two such fields, or with one that is malformed, stays as it is, and is refused as it was.
abbrev pub without_origins : List ℕ → List ℕ
without_origins = without start
