-- How a tree is written as a listing: its lines in order, and their bytes. Definitions only.
use Rattle.std.specs.Prelude.{ℕ, List, [], ◌∷◌, ◌++◌, cond, length, drop, ltb, Result, Ok, Err}
use Rattle.complex.specs.Bits.{bits_of}
use Rattle.expression.specs.declared.refusal.Refusal.{Refusal}
use Rattle.spelling.specs.Names.{function_name, prefix_name, infix_name}
use Rattle.expression.specs.Trees.{Tree, Leaf, leaf, number, pi, variable, cell, function_call, prefixed, infixed}
use Rattle.expression.specs.Alike.{identical}
use Rattle.store.specs.Storing.{among, place}
use Rattle.text.specs.Letters.{bytes}
use Rattle.text.specs.Writing.{in_decimal, in_hex, line}
use Rattle.listing.specs.Listings.{most_nodes}

-- "A written listing holds the reachable nodes once each, in the order in which evaluation first finishes them": a tree after those in `done`,
-- depth first, left before right
unfoldable pub once : Tree → (done : List Tree) → List Tree
once t done = cond (among done t) done (done ++ (t ∷ []))

unfoldable pub finished : Tree → (done : List Tree) → List Tree
finished (leaf l) done = once (leaf l) done
finished (function_call f t) done = once (function_call f t) (finished t done)
finished (prefixed o t) done = once (prefixed o t) (finished t done)
finished (infixed o l r) done = once (infixed o l r) (finished r (finished l done))

abbrev pub order : Tree → List Tree
order t = finished t []

-- ---- the fields of a line, where `lines` are those of the listing

abbrev pub numbered : (lines : List Tree) → Tree → List ℕ
numbered lines t = in_decimal (place (identical t) lines)

unfoldable pub leaf_fields : Leaf → List (List ℕ)
leaf_fields (number z) = bytes "n" ∷ in_hex (bits_of z.re) ∷ in_hex (bits_of z.im) ∷ []
leaf_fields pi = bytes "p" ∷ []
leaf_fields (variable v) = bytes "v" ∷ in_decimal v ∷ []
leaf_fields (cell region index) = bytes "m" ∷ in_decimal region ∷ in_decimal index ∷ []

unfoldable pub line_fields : (lines : List Tree) → Tree → List (List ℕ)
line_fields lines (leaf l) = leaf_fields l
line_fields lines (function_call f t) = bytes "f" ∷ function_name f ∷ numbered lines t ∷ []
line_fields lines (prefixed o t) = bytes "u" ∷ prefix_name o ∷ numbered lines t ∷ []
line_fields lines (infixed o l r) = bytes "b" ∷ infix_name o ∷ numbered lines l ∷ numbered lines r ∷ []

-- ---- the listing

unfoldable pub text : (lines ts : List Tree) → List ℕ
text lines [] = []
text lines (t ∷ ts) = line (line_fields lines t) ++ text lines ts

abbrev pub text_of : Tree → List ℕ
text_of t = text (order t) (order t)

-- "13 OUT_ROOM: output shorter than the result"; "A success writes its bytes at the start of the output and keeps the rest"
abbrev pub fitted : (result out : List ℕ) → Result ℕ Refusal × List ℕ
fitted result out =
    cond (ltb (length out) (length result)) (Err Refusal.OutRoom, out)
    (Ok (length result), result ++ drop (length result) out)

-- "2 LONG_LIST: a result listing of over 1024 lines", 0; then 13
unfoldable pub written : Tree → (out : List ℕ) → Result ℕ Refusal × List ℕ
written t out =
    cond (ltb most_nodes (length (order t))) (Err (Refusal.LongList 0), out)
    (fitted (text_of t) out)
