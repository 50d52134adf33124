-- How long a written listing is: at most 36 bytes a line, and with origins 42. Assumes nothing.
use mathlib.Core.Bool.{Bool, true, false, cond}
use mathlib.Core.List.{List, [], ◌∷◌, ◌++◌}
use Prim.Native.Nat.{◌*◌, ◌≤◌}
use native.Mathlib.Omega.{arith}
use lib.ListN.{length, length-append}
use Rattle.expression.specs.Trees.{Tree, number, pi, variable, cell, leaf, function_call, prefixed, infixed}
use Rattle.expression.specs.Alike.{identical}
use Rattle.expression.specs.Limits.{Proper}
use Rattle.origins.proofs.Lengths as Origins
use Rattle.store.specs.Origins.{origin_of}
use Rattle.store.specs.Storing.{among, place}
use Rattle.store.proofs.Places.{place_within}
use Rattle.text.specs.Writing.{line}
use Rattle.text.proofs.Putting.{few_digits}
use Rattle.writing.specs.Order.{once, finished, order, numbered, line_fields, text, text_of}
use Rattle.writing.specs.Origins.{traced_line, traced_text, traced_text_of}
use Rattle.writing.specs.Ordering.{text_fields, line_text}
use Rattle.writing.proofs.FirstLine.{origin_few}
use Rattle.writing.proofs.LineParts.{traced_longer}
use Rattle.writing.proofs.LineTexts.{number_length, pi_length, variable_length, cell_length, call_length, name_short, prefix_length, infix_length}

-- ---- the trees of a listing

AllProper : List Tree → Type 0
AllProper [] = Unit {0}
AllProper (t ∷ ts) = Proper t × AllProper ts

proper_snoc : (ts : List Tree) (t : Tree) → AllProper ts → Proper t → AllProper (ts ++ (t ∷ []))
unfolding AllProper
proper_snoc [] t a p = (p, tt)
proper_snoc (s ∷ ts) t a p = (a.0, proper_snoc ts t a.1 p)

proper_once : (t : Tree) (done : List Tree) → Proper t → AllProper done → AllProper (once t done)
unfolding once
proper_once t done p a = go (among done t)
  where
    go : (b : Bool) → AllProper (cond b done (done ++ (t ∷ [])))
    go true = a
    go false = proper_snoc done t a p

proper_finished : (t : Tree) (done : List Tree) → Proper t → AllProper done → AllProper (finished t done)
unfolding finished
proper_finished (leaf l) done p a = proper_once (leaf l) done p a
proper_finished (function_call f t) done p a = proper_once (function_call f t) (finished t done) p (proper_finished t done p a)
proper_finished (prefixed o t) done p a = proper_once (prefixed o t) (finished t done) p (proper_finished t done p a)
proper_finished (infixed o l r) done p a =
    proper_once (infixed o l r) (finished r (finished l done)) p (proper_finished r (finished l done) p.1 (proper_finished l done p.0 a))

-- ---- their lines, where there are at most 1024, so that a line's number has at most four digits

module _ (lines : List Tree) (few : length lines ≤ 1024) where
  number_short : (t : Tree) → length (numbered lines t) ≤ 4
  number_short t = few_digits 3 (place (identical t) lines) (omega (arith, few, place_within (identical t) lines))

  line_short : (t : Tree) → Proper t → length (line (line_fields lines t)) ≤ 36
  unfolding line_fields line_text text_fields
  line_short (leaf (number z)) p = omega (arith, number_length z)
  line_short (leaf pi) p = omega (arith, pi_length)
  line_short (leaf (variable v)) p = omega (arith, variable_length v, few_digits 4 v (omega (arith, p)))
  line_short (leaf (cell region index)) p =
      omega (arith, cell_length region index, few_digits 4 region (omega (arith, p.0)), few_digits 9 index (omega (arith, p.1)))
  line_short (function_call f t) p = omega (arith, call_length f (place (identical t) lines), name_short f, number_short t)
  line_short (prefixed o t) p = omega (arith, prefix_length o (place (identical t) lines), number_short t)
  line_short (infixed o l r) p = omega (arith, infix_length o (place (identical l) lines) (place (identical r) lines), number_short l, number_short r)

  text_short : (ts : List Tree) → AllProper ts → length (text lines ts) ≤ 36 * length ts
  unfolding text AllProper
  text_short [] a = omega arith
  text_short (t ∷ ts) a = omega (arith, length-append (line (line_fields lines t)) (text lines ts), line_short t a.0, text_short ts a.1)

-- ---- the listing

-- a written listing of n lines has at most 36 n bytes
pub listing_length : (t : Tree) → Proper t → length (order t) ≤ 1024 → length (text_of t) ≤ 36 * length (order t)
unfolding AllProper
listing_length t p few = text_short (order t) few (order t) (proper_finished t [] p tt)

-- ---- with origins

module _ (given lines : List Tree) (lately : length given ≤ 1024) (few : length lines ≤ 1024) where
  traced_short : (ts : List Tree) → AllProper ts → length (traced_text given lines ts) ≤ 42 * length ts
  unfolding traced_text AllProper
  traced_short [] a = omega arith
  traced_short (t ∷ ts) a = omega (
    arith,
    length-append (traced_line given lines t) (traced_text given lines ts),
    traced_longer given lines t,
    Origins.text_short (origin_of given t) (omega (arith, lately, origin_few given t)),
    line_short lines few t a.0,
    traced_short ts a.1,
  )

-- with origins of at most 1024 lines: at most 42 n bytes
pub traced_listing_length : (given : List Tree) → length given ≤ 1024 → (t : Tree) → Proper t → length (order t) ≤ 1024 → length (traced_text_of given t) ≤ 42 * length (order t)
unfolding AllProper
traced_listing_length given lately t p few = traced_short given (order t) lately few (order t) (proper_finished t [] p tt)

-- and never fewer than without
text_shorter : (given lines ts : List Tree) → length (text lines ts) ≤ length (traced_text given lines ts)
unfolding text traced_text
text_shorter given lines [] = omega arith
text_shorter given lines (t ∷ ts) = omega (
  arith,
  length-append (line (line_fields lines t)) (text lines ts),
  length-append (traced_line given lines t) (traced_text given lines ts),
  traced_longer given lines t,
  text_shorter given lines ts,
)

pub listing_shorter : (given : List Tree) (t : Tree) → length (text_of t) ≤ length (traced_text_of given t)
listing_shorter given t = text_shorter given (order t) (order t)
