-- How a tree is written as a listing with origins: the lines of the listing without them, each with one field more. Definitions only.
use Rattle.std.specs.Prelude.{ℕ, List, [], ◌∷◌, ◌++◌, cond, length, ltb, Result, Err}
use Rattle.expression.specs.declared.refusal.Refusal.{Refusal}
use Rattle.expression.specs.Trees.{Tree}
use Rattle.origins.specs.Fields.{origin_text}
use Rattle.store.specs.Origins.{origin_of}
use Rattle.text.specs.Writing.{line}
use Rattle.listing.specs.Listings.{most_nodes}
use Rattle.writing.specs.Order.{order, line_fields, fitted}

-- "Written listings may carry the origins as a last field of their node lines": `given` are the trees of the job's lines, `lines` those of this listing
abbrev pub traced_line : (given lines : List Tree) → Tree → List ℕ
traced_line given lines t = line (line_fields lines t ++ (origin_text (origin_of given t) ∷ []))

unfoldable pub traced_text : (given lines ts : List Tree) → List ℕ
traced_text given lines [] = []
traced_text given lines (t ∷ ts) = traced_line given lines t ++ traced_text given lines ts

abbrev pub traced_text_of : (given : List Tree) → Tree → List ℕ
traced_text_of given t = traced_text given (order t) (order t)

-- 2, then 13, as `written` has them: 13 is that of the bytes that would be written
unfoldable pub written_traced : (given : List Tree) → Tree → (out : List ℕ) → Result ℕ Refusal × List ℕ
written_traced given t out =
    cond (ltb most_nodes (length (order t))) (Err (Refusal.LongList 0), out)
    (fitted (traced_text_of given t) out)
