-- The bytes of a tree's line: its first byte and those up to its end, whatever ends it. Assumes nothing.
use mathlib.Core.Path.{◌≡◌, refl}
use mathlib.Core.List.{List, [], ◌∷◌, ◌++◌, append_assoc}
use mathlib.Core.Bool.{false}
use Prim.Native.Nat.{ℕ, ◌+◌}
use native.Mathlib.Omega.{arith}
use lib.Dec.{eqb}
use lib.ListN.{length, length-append}
use Rattle.complex.specs.Bits.{bits_of}
use Rattle.expression.specs.Codes.{infix_code, prefix_code, function_code}
use Rattle.expression.specs.Trees.{Tree, leaf, number, pi, variable, cell, function_call, prefixed, infixed}
use Rattle.expression.specs.Alike.{identical}
use Rattle.origins.specs.Fields.{origin_text}
use Rattle.store.specs.Origins.{origin_of}
use Rattle.store.specs.Storing.{place}
use Rattle.spelling.specs.Names.{function_names, prefix_names, infix_names, named}
use Rattle.text.specs.Writing.{in_decimal, in_hex, line}
use Rattle.writing.specs.Order.{leaf_fields, line_fields}
use Rattle.writing.specs.Origins.{traced_line}
use Rattle.writing.proofs.TracedLines.{parted, plain_line_lem, longer_line}

-- the first byte of a line, and what comes after it, up to and with what ends it
abbrev pub head_of : Tree → ℕ
head_of (leaf (number z)) = 110
head_of (leaf pi) = 112
head_of (leaf (variable v)) = 118
head_of (leaf (cell r i)) = 109
head_of (function_call f t) = 102
head_of (prefixed o t) = 117
head_of (infixed o l r) = 98

abbrev pub child_text : (all : List Tree) → Tree → List ℕ
child_text all c = in_decimal (place (identical c) all)

abbrev pub tail_of : (all : List Tree) → Tree → (after : List ℕ) → List ℕ
tail_of all (leaf (number z)) after = 9 ∷ (in_hex (bits_of z.re) ++ 9 ∷ (in_hex (bits_of z.im) ++ after))
tail_of all (leaf pi) after = after
tail_of all (leaf (variable v)) after = 9 ∷ (in_decimal v ++ after)
tail_of all (leaf (cell r i)) after = 9 ∷ (in_decimal r ++ 9 ∷ (in_decimal i ++ after))
tail_of all (function_call f t) after = 9 ∷ (named function_names (function_code f) ++ 9 ∷ (child_text all t ++ after))
tail_of all (prefixed o t) after = 9 ∷ (named prefix_names (prefix_code o) ++ 9 ∷ (child_text all t ++ after))
tail_of all (infixed o l r) after = 9 ∷ (named infix_names (infix_code o) ++ 9 ∷ (child_text all l ++ 9 ∷ (child_text all r ++ after)))

pub head_no_s : (t : Tree) → eqb (head_of t) 115 ≡ false
head_no_s (leaf (number z)) = refl
head_no_s (leaf pi) = refl
head_no_s (leaf (variable v)) = refl
head_no_s (leaf (cell r i)) = refl
head_no_s (function_call f t) = refl
head_no_s (prefixed o t) = refl
head_no_s (infixed o l r) = refl

-- ---- with LF, and with an origin

record Parts (all : List Tree) (t : Tree) : Type 0 where
  pub first : List ℕ
  pub others : List (List ℕ)
  pub fields : line_fields all t ≡ first ∷ others
  pub begins : (after : List ℕ) → parted first others ++ after ≡ head_of t ∷ tail_of all t after

parts : (all : List Tree) (t : Tree) → Parts all t
unfolding parted line_fields leaf_fields
parts all (leaf (number z)) = record { first = _; others = _; fields = refl; begins = λ after. simp append_assoc }
parts all (leaf pi) = record { first = _; others = _; fields = refl; begins = λ after. refl }
parts all (leaf (variable v)) = record { first = _; others = _; fields = refl; begins = λ after. simp append_assoc }
parts all (leaf (cell r i)) = record { first = _; others = _; fields = refl; begins = λ after. simp append_assoc }
parts all (function_call f t) = record { first = _; others = _; fields = refl; begins = λ after. simp append_assoc }
parts all (prefixed o t) = record { first = _; others = _; fields = refl; begins = λ after. simp append_assoc }
parts all (infixed o l r) = record { first = _; others = _; fields = refl; begins = λ after. simp append_assoc }

pub plain_splits : (all : List Tree) (t : Tree) (rest : List ℕ) → line (line_fields all t) ++ rest ≡ head_of t ∷ tail_of all t (10 ∷ rest)
plain_splits all t rest =
    let p = parts all t in
    rw (p.fields, plain_line_lem p.first p.others, append_assoc (parted p.first p.others) (10 ∷ []) rest) (p.begins (10 ∷ rest))

pub traced_splits : (given all : List Tree) (t : Tree) (rest : List ℕ)
    → traced_line given all t ++ rest ≡ head_of t ∷ tail_of all t (9 ∷ (origin_text (origin_of given t) ++ (10 ∷ rest)))
traced_splits given all t rest =
    let p = parts all t in
    let o = origin_text (origin_of given t) in
    rw (p.fields, longer_line p.first p.others o, append_assoc (parted p.first p.others) (9 ∷ (o ++ (10 ∷ []))) rest, append_assoc o (10 ∷ []) rest)
    (p.begins (9 ∷ (o ++ (10 ∷ rest))))

-- how much longer it is with an origin
pub traced_longer : (given all : List Tree) (t : Tree) → length (traced_line given all t) ≡ length (line (line_fields all t)) + length (origin_text (origin_of given t)) + 1
traced_longer given all t =
    let p = parts all t in
    let o = origin_text (origin_of given t) in
    let b = parted p.first p.others in
    rw (p.fields, plain_line_lem p.first p.others, longer_line p.first p.others o)
    (omega (arith, length-append b (10 ∷ []), length-append b (9 ∷ (o ++ (10 ∷ []))), length-append o (10 ∷ [])))
