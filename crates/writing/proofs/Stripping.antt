-- A listing with origins, its fields of origins taken out, is the listing without: `strips`; and so are the bytes that are written,
-- `written_stripped`. Assumes nothing.
use mathlib.Core.Path.{◌≡◌, refl, ap, ◌∙◌, subst}
use mathlib.Core.List.{List, [], ◌∷◌, ◌++◌, map}
use mathlib.Core.Bool.{not}
use Prim.Native.Nat.{ℕ, zero, suc, ◌/◌, ◌%◌, ◌≤◌}
use native.Mathlib.Omega.{arith}
use native.Mathlib.Decide.{dec_lt}
use lib.Dec.{T, ltb, ltb→lt, eqb}
use lib.ListN.{length, take, drop}
use lib.Seq.{take-append_seam}
use borrow.Author.Tests.{lt-ltb, le-ltb, eq-eqb, ne_eqb}
use Rattle.std.specs.Prelude.{Ok, Err}
use Rattle.complex.specs.Bits.{bits_of}
use Rattle.expression.specs.declared.InfixOperator.{InfixOperator}
use Rattle.expression.specs.declared.PrefixOperator.{PrefixOperator}
use Rattle.expression.specs.declared.ExpressionFunction.{ExpressionFunction}
use Rattle.expression.specs.declared.refusal.Refusal.{Refusal}
use Rattle.expression.specs.Codes.{infix_code, prefix_code, function_code}
use Rattle.expression.specs.Trees.{Tree, leaf, number, pi, variable, cell, function_call, prefixed, infixed}
use Rattle.expression.specs.Alike.{identical}
use Rattle.node_lines.specs.Without.{node, dropped, whole_field, in_line, passing, left, without, without_origins}
use Rattle.node_lines.proofs.Beside.{Plain, PlainWord, PlainName}
use Rattle.origins.specs.Fields.{origin, origin_text}
use Rattle.origins.proofs.Ending.{origin_reads}
use Rattle.origins.proofs.Lengths.{some_digit}
use Rattle.spelling.specs.Names.{function_names, prefix_names, infix_names, named}
use Rattle.store.specs.Storing.{place}
use Rattle.store.specs.Origins.{origin_of}
use Rattle.text.specs.Reading.{bad, lf, ended}
use Rattle.text.specs.Digits.{digits}
use Rattle.text.specs.Writing.{byte_of, in_decimal, last_hex, in_hex, line}
use Rattle.text.proofs.Putting.{hex_length}
use Rattle.text.proofs.RoundTrip.{ended_here}
use Rattle.writing.specs.Order.{order, line_fields, text, text_of, written}
use Rattle.writing.specs.Origins.{traced_line, traced_text, traced_text_of, written_traced}
use Rattle.writing.proofs.FirstLine.{origin_few}
use Rattle.writing.proofs.Lengths.{listing_shorter}
use Rattle.writing.proofs.LineParts.{head_of, child_text, tail_of, plain_splits, traced_splits}

-- ---- the bytes of fields: none is LF, tab or `@`, and a field has a byte

byte_plain : (d : ℕ) → Plain (byte_of d)
unfolding byte_of
byte_plain d = elim (dec_lt d 10) [
  | yes l ↦ rw (lt-ltb d 10 l) (record { high = omega arith; other = λ e. omega (arith, e, l) })
  | no g ↦ rw (le-ltb d 10 (omega (arith, g))) (record { high = omega arith; other = λ e. omega (arith, e) })
]

bytes_plain : (ds : List ℕ) → PlainWord (map byte_of ds)
bytes_plain [] = tt
bytes_plain (d ∷ ds) = (byte_plain d, bytes_plain ds)

plain_snoc : (w : List ℕ) (b : ℕ) → PlainWord w → Plain b → PlainWord (w ++ (b ∷ []))
plain_snoc [] b p q = (q, tt)
plain_snoc (c ∷ w) b p q = (p.0, plain_snoc w b p.1 q)

hex_plain : (k n : ℕ) → PlainWord (last_hex k n)
unfolding last_hex
hex_plain zero n = tt
hex_plain (suc k) n = plain_snoc (last_hex k (n / 16)) (byte_of (n % 16)) (hex_plain k (n / 16)) (byte_plain (n % 16))

some_plain : (w : List ℕ) → PlainWord w → 1 ≤ length w → PlainName w
some_plain [] p h = omega (arith, h)
some_plain (b ∷ w) p h = p

pub decimal_plain : (n : ℕ) → PlainName (in_decimal n)
unfolding in_decimal
decimal_plain n = some_plain (in_decimal n) (bytes_plain (digits n)) (some_digit n)

pub bits_plain : (n : ℕ) → PlainName (in_hex n)
unfolding in_hex
bits_plain n = some_plain (in_hex n) (hex_plain 16 n) (omega (arith, hex_length n))

letter_plain : (b : ℕ) → T (ltb 32 b) → T (not (eqb b 64)) → Plain b
letter_plain b h n = record { high = ltb→lt 32 b h; other = λ e. subst (λ c. T (not c)) (eq-eqb b 64 e) n }

pub function_plain : (f : ExpressionFunction) → PlainName (named function_names (function_code f))
function_plain ExpressionFunction.Sine = (letter_plain 115 tt tt, (letter_plain 105 tt tt, (letter_plain 110 tt tt, tt)))
function_plain ExpressionFunction.Cosine = (letter_plain 99 tt tt, (letter_plain 111 tt tt, (letter_plain 115 tt tt, tt)))
function_plain ExpressionFunction.Exponent = (letter_plain 101 tt tt, (letter_plain 120 tt tt, (letter_plain 112 tt tt, tt)))
function_plain ExpressionFunction.SquareRoot = (letter_plain 115 tt tt, (letter_plain 113 tt tt, (letter_plain 114 tt tt, (letter_plain 116 tt tt, tt))))
function_plain ExpressionFunction.Cis = (letter_plain 99 tt tt, (letter_plain 105 tt tt, (letter_plain 115 tt tt, tt)))

pub prefix_plain : (o : PrefixOperator) → PlainName (named prefix_names (prefix_code o))
prefix_plain PrefixOperator.Plus = (letter_plain 43 tt tt, tt)
prefix_plain PrefixOperator.Minus = (letter_plain 45 tt tt, tt)

pub infix_plain : (o : InfixOperator) → PlainName (named infix_names (infix_code o))
infix_plain InfixOperator.Plus = (letter_plain 43 tt tt, tt)
infix_plain InfixOperator.Minus = (letter_plain 45 tt tt, tt)
infix_plain InfixOperator.Star = (letter_plain 42 tt tt, tt)
infix_plain InfixOperator.Slash = (letter_plain 47 tt tt, tt)
infix_plain InfixOperator.Caret = (letter_plain 94 tt tt, tt)

-- ---- a line

byte_stays : (b : ℕ) (bs : List ℕ) → Plain b → without node (b ∷ bs) ≡ b ∷ without node bs
unfolding without passing left in_line
byte_stays b bs p = let h = p.high in rw (ne_eqb b 10 (λ e. omega (arith, e, h)), ne_eqb b 9 (λ e. omega (arith, e, h)), ne_eqb b 64 p.other)

word_stays : (w bs : List ℕ) → PlainWord w → without node (w ++ bs) ≡ w ++ without node bs
word_stays [] bs p = refl
word_stays (b ∷ w) bs p = byte_stays b (w ++ bs) p.0 ∙ ap (λ (l : List ℕ). b ∷ l) (word_stays w bs p.1)

-- a tab before a field of the line, and the field
tab_stays : (bs : List ℕ) → ended lf (origin bs) ≡ bad → without node (9 ∷ bs) ≡ 9 ∷ without node bs
unfolding without passing left in_line whole_field
tab_stays bs e = rw e

no_origin : (b : ℕ) (bs : List ℕ) → (b ≡ 64 → ⊥) → ended lf (origin (b ∷ bs)) ≡ bad
unfolding origin ended
no_origin b bs n = rw (ne_eqb b 64 n)

field_stays : (w bs : List ℕ) → PlainName w → without node (9 ∷ (w ++ bs)) ≡ 9 ∷ (w ++ without node bs)
field_stays [] bs p = absurd p
field_stays (b ∷ w) bs p = tab_stays (b ∷ w ++ bs) (no_origin b (w ++ bs) p.0.other) ∙ ap (λ (l : List ℕ). 9 ∷ l) (word_stays (b ∷ w) bs p)

-- the origin, with the tab before it
drops : (w bs : List ℕ) → PlainWord w → without dropped (w ++ bs) ≡ without dropped bs
unfolding without passing left in_line
drops [] bs p = refl
drops (b ∷ w) bs p = let h = p.0.high in rw (ne_eqb b 10 λ e. omega (arith, e, h)) (drops w bs p.1)

at_drops : (bs : List ℕ) → without dropped (64 ∷ bs) ≡ without dropped bs
unfolding without passing left in_line
at_drops bs = refl

origin_drops : (o : ℕ) (bs : List ℕ) → without dropped (origin_text o ++ bs) ≡ without dropped bs
unfolding origin_text in_decimal
origin_drops zero bs = at_drops (45 ∷ bs) ∙ drops (45 ∷ []) bs (letter_plain 45 tt tt, tt)
origin_drops (suc n) bs = at_drops (in_decimal n ++ bs) ∙ drops (in_decimal n) bs (bytes_plain (digits n))

end_stays : (rest : List ℕ) → without dropped (10 ∷ rest) ≡ 10 ∷ without_origins rest
unfolding without passing left
end_stays rest = refl

pub origin_goes : (o : ℕ) (rest : List ℕ) → o ≤ 1024 → without node (9 ∷ (origin_text o ++ (10 ∷ rest))) ≡ 10 ∷ without_origins rest
unfolding without passing left in_line whole_field
origin_goes o rest h = rw (origin_reads o rest h, ended_here 10 o rest) (origin_drops o (10 ∷ rest) ∙ end_stays rest)

tail_strips : (all : List Tree) (t : Tree) (after : List ℕ) {after' : List ℕ} → without node after ≡ after' → without node (tail_of all t after) ≡ tail_of all t after'
tail_strips all (leaf (number z)) after e = rw (
  field_stays (in_hex (bits_of z.re)) (9 ∷ (in_hex (bits_of z.im) ++ after)) (bits_plain (bits_of z.re)),
  field_stays (in_hex (bits_of z.im)) after (bits_plain (bits_of z.im)),
  e,
)
tail_strips all (leaf pi) after e = e
tail_strips all (leaf (variable v)) after e = rw (field_stays (in_decimal v) after (decimal_plain v), e)
tail_strips all (leaf (cell r i)) after e =
    rw (field_stays (in_decimal r) (9 ∷ (in_decimal i ++ after)) (decimal_plain r), field_stays (in_decimal i) after (decimal_plain i), e)
tail_strips all (function_call f t) after e = rw (
  field_stays (named function_names (function_code f)) (9 ∷ (child_text all t ++ after)) (function_plain f),
  field_stays (child_text all t) after (decimal_plain (place (identical t) all)),
  e,
)
tail_strips all (prefixed o t) after e = rw (
  field_stays (named prefix_names (prefix_code o)) (9 ∷ (child_text all t ++ after)) (prefix_plain o),
  field_stays (child_text all t) after (decimal_plain (place (identical t) all)),
  e,
)
tail_strips all (infixed o l r) after e = rw (
  field_stays (named infix_names (infix_code o)) (9 ∷ (child_text all l ++ 9 ∷ (child_text all r ++ after))) (infix_plain o),
  field_stays (child_text all l) (9 ∷ (child_text all r ++ after)) (decimal_plain (place (identical l) all)),
  field_stays (child_text all r) after (decimal_plain (place (identical r) all)),
  e,
)

head_stays : (t : Tree) (bs : List ℕ) → without_origins (head_of t ∷ bs) ≡ head_of t ∷ without node bs
unfolding without passing left in_line
head_stays (leaf (number z)) bs = refl
head_stays (leaf pi) bs = refl
head_stays (leaf (variable v)) bs = refl
head_stays (leaf (cell r i)) bs = refl
head_stays (function_call f t) bs = refl
head_stays (prefixed o t) bs = refl
head_stays (infixed o l r) bs = refl

line_strips : (given all : List Tree) (t : Tree) (rest : List ℕ) → length given ≤ 1024 → without_origins (traced_line given all t ++ rest) ≡ line (line_fields all t) ++ without_origins rest
line_strips given all t rest h =
    rw (traced_splits given all t rest, plain_splits all t (without_origins rest))
    (head_stays t _ ∙ ap (λ (l : List ℕ). head_of t ∷ l) (tail_strips all t _ (origin_goes (origin_of given t) rest (omega (arith, h, origin_few given t)))))

-- ---- a listing

text_strips : (given all : List Tree) → length given ≤ 1024 → (ts : List Tree) → without_origins (traced_text given all ts) ≡ text all ts
unfolding traced_text text without
text_strips given all h [] = refl
text_strips given all h (t ∷ ts) = line_strips given all t (traced_text given all ts) h ∙ ap (λ (l : List ℕ). line (line_fields all t) ++ l) (text_strips given all h ts)

pub strips : (given : List Tree) → length given ≤ 1024 → (t : Tree) → without_origins (traced_text_of given t) ≡ text_of t
strips given h t = text_strips given (order t) h (order t)

-- one without origins stays as it is
ends_plain : (rest : List ℕ) → without node (10 ∷ rest) ≡ 10 ∷ without_origins rest
unfolding without passing left
ends_plain rest = refl

plain_stays : (all : List Tree) (t : Tree) (rest : List ℕ) → without_origins (line (line_fields all t) ++ rest) ≡ line (line_fields all t) ++ without_origins rest
plain_stays all t rest =
    rw (plain_splits all t rest, plain_splits all t (without_origins rest)) (head_stays t _ ∙ ap (λ (l : List ℕ). head_of t ∷ l) (tail_strips all t _ (ends_plain rest)))

text_stays : (all ts : List Tree) → without_origins (text all ts) ≡ text all ts
unfolding text without
text_stays all [] = refl
text_stays all (t ∷ ts) = plain_stays all t (text all ts) ∙ ap (λ (l : List ℕ). line (line_fields all t) ++ l) (text_stays all ts)

pub strips_nothing : (t : Tree) → without_origins (text_of t) ≡ text_of t
strips_nothing t = text_stays (order t) (order t)

-- ---- what is written

-- with origins and without, into the same output: both are refused as too long; or there is no room for the origins; or both are written, and the
-- bytes of the one, without its origins, are those of the other
pub data Alongside (given : List Tree) (t : Tree) (out : List ℕ) : Type 0 where
  too_long_lem : written_traced given t out ≡ (Err (Refusal.LongList 0), out) → written t out ≡ (Err (Refusal.LongList 0), out) → Alongside given t out
  no_room : written_traced given t out ≡ (Err Refusal.OutRoom, out) → Alongside given t out
  both : (n plain : ℕ) (out₁ out₂ : List ℕ) → written_traced given t out ≡ (Ok n, out₁) → written t out ≡ (Ok plain, out₂)
      → without_origins (take n out₁) ≡ take plain out₂ → Alongside given t out

pub written_stripped : (given : List Tree) → length given ≤ 1024 → (t : Tree) (out : List ℕ) → Alongside given t out
unfolding written written_traced
written_stripped given h t out = elim (dec_lt 1024 (length (order t))) [
  | yes l ↦ too_long_lem (rw (lt-ltb 1024 (length (order t)) l)) (rw (lt-ltb 1024 (length (order t)) l))
  | no g ↦ elim (dec_lt (length out) (length (traced_text_of given t))) [
    | yes l ↦ no_room (rw (le-ltb 1024 (length (order t)) (omega (arith, g)), lt-ltb (length out) (length (traced_text_of given t)) l))
    | no k ↦
        both (length (traced_text_of given t)) (length (text_of t)) (traced_text_of given t ++ drop (length (traced_text_of given t)) out) (text_of t ++ drop (length (text_of t)) out)
        (rw (le-ltb 1024 (length (order t)) (omega (arith, g)), le-ltb (length out) (length (traced_text_of given t)) (omega (arith, k))))
        (rw (le-ltb 1024 (length (order t)) (omega (arith, g)), le-ltb (length out) (length (text_of t)) (omega (arith, k, listing_shorter given t))))
        (rw (take-append_seam (traced_text_of given t) (drop (length (traced_text_of given t)) out), take-append_seam (text_of t) (drop (length (text_of t)) out)) (strips given h t))
  ]
]
