-- What is said of a listing with origins, by its trees: of each line in order exactly its origin, `standing_says`. Assumes nothing.
use mathlib.Core.Path.{◌≡◌, refl, ap, ◌∙◌}
use mathlib.Core.List.{List, [], ◌∷◌, ◌++◌}
use mathlib.Core.Bool.{Bool, true, false}
use Prim.Native.Nat.{ℕ, zero, suc, ◌+◌, ◌≤◌, ◌<◌}
use native.Mathlib.Omega.{arith}
use lib.ListN.{length}
use borrow.Author.Tests.{lt-ltb, ne_eqb}
use Rattle.complex.specs.Bits.{bits_of}
use Rattle.expression.specs.declared.InfixOperator.{InfixOperator}
use Rattle.expression.specs.Codes.{infix_code, prefix_code, function_code}
use Rattle.expression.specs.Trees.{Tree, leaf, number, pi, variable, cell, function_call, prefixed, infixed}
use Rattle.expression.specs.Alike.{identical, alike, alike_leaves}
use Rattle.node_lines.proofs.Beside.{PlainWord, PlainName}
use Rattle.origins.specs.Fields.{origin_text}
use Rattle.origins.specs.Standing.{stands_at, told, standing_from, standing}
use Rattle.spelling.specs.Names.{function_names, prefix_names, infix_names, named}
use Rattle.store.specs.Storing.{among, place}
use Rattle.store.specs.Origins.{origin_of}
use Rattle.text.specs.Letters.{bytes}
use Rattle.text.specs.Reading.{digit_of, run, spelt, decimal}
use Rattle.text.specs.Digits.{digits, digits_by}
use Rattle.text.specs.Writing.{byte_of, in_decimal, in_hex}
use Rattle.text.proofs.RoundTrip.{decimal_reads}
use Rattle.writing.specs.Order.{once, finished, order}
use Rattle.writing.specs.Origins.{traced_line, traced_text, traced_text_of}
use Rattle.writing.proofs.FirstLine.{origin_few}
use Rattle.writing.proofs.LineParts.{head_of, child_text, tail_of, traced_splits}
use Rattle.writing.proofs.Stripping.{decimal_plain, bits_plain, function_plain, prefix_plain, infix_plain}

-- what is said of a line with this origin: nothing, or which line of the job it was
unfoldable pub sentence : (origin line : ℕ) → List ℕ
sentence zero line = []
sentence (suc job) line = stands_at job line

-- the sentence of each line whose tree a line of the job gave, from this line on
unfoldable pub saying : (given : List Tree) (line : ℕ) → List Tree → List ℕ
saying given line [] = []
saying given line (t ∷ ts) = sentence (origin_of given t) line ++ saying given (suc line) ts

-- ---- a line

module _ (line : ℕ) where
  -- the bytes of a field say nothing
  word_passes : (passed : Bool) (w bs : List ℕ) → PlainWord w → standing_from line passed (w ++ bs) ≡ standing_from line passed bs
  unfolding standing_from
  word_passes passed [] bs p = refl
  word_passes passed (b ∷ w) bs p = let h = p.0.high in rw (ne_eqb b 10 (λ e. omega (arith, e, h)), ne_eqb b 64 p.0.other) (word_passes passed w bs p.1)

  name_passes : (passed : Bool) (w bs : List ℕ) → PlainName w → standing_from line passed (w ++ bs) ≡ standing_from line passed bs
  name_passes passed [] bs p = absurd p
  name_passes passed (b ∷ w) bs p = word_passes passed (b ∷ w) bs p

  -- nor with the tab before it
  field_passes : (w bs : List ℕ) → PlainName w → standing_from line false (9 ∷ (w ++ bs)) ≡ standing_from line false bs
  unfolding standing_from
  field_passes w bs p = name_passes false w bs p

  tail_passes : (all : List Tree) (t : Tree) (after : List ℕ) → standing_from line false (tail_of all t after) ≡ standing_from line false after
  tail_passes all (leaf (number z)) after =
      field_passes (in_hex (bits_of z.re)) (9 ∷ (in_hex (bits_of z.im) ++ after)) (bits_plain (bits_of z.re))
      ∙ field_passes (in_hex (bits_of z.im)) after (bits_plain (bits_of z.im))
  tail_passes all (leaf pi) after = refl
  tail_passes all (leaf (variable v)) after = field_passes (in_decimal v) after (decimal_plain v)
  tail_passes all (leaf (cell r i)) after =
      field_passes (in_decimal r) (9 ∷ (in_decimal i ++ after)) (decimal_plain r) ∙ field_passes (in_decimal i) after (decimal_plain i)
  tail_passes all (function_call f t) after =
      field_passes (named function_names (function_code f)) (9 ∷ (child_text all t ++ after)) (function_plain f)
      ∙ field_passes (child_text all t) after (decimal_plain (place (identical t) all))
  tail_passes all (prefixed o t) after =
      field_passes (named prefix_names (prefix_code o)) (9 ∷ (child_text all t ++ after)) (prefix_plain o)
      ∙ field_passes (child_text all t) after (decimal_plain (place (identical t) all))
  tail_passes all (infixed o l r) after =
      field_passes (named infix_names (infix_code o)) (9 ∷ (child_text all l ++ 9 ∷ (child_text all r ++ after))) (infix_plain o)
      ∙ field_passes (child_text all l) (9 ∷ (child_text all r ++ after)) (decimal_plain (place (identical l) all))
      ∙ field_passes (child_text all r) after (decimal_plain (place (identical r) all))

  head_passes : (t : Tree) (bs : List ℕ) → standing_from line false (head_of t ∷ bs) ≡ standing_from line false bs
  unfolding standing_from
  head_passes (leaf (number z)) bs = refl
  head_passes (leaf pi) bs = refl
  head_passes (leaf (variable v)) bs = refl
  head_passes (leaf (cell r i)) bs = refl
  head_passes (function_call f t) bs = refl
  head_passes (prefixed o t) bs = refl
  head_passes (infixed o l r) bs = refl

  at_end_lem : (passed : Bool) (rest : List ℕ) → standing_from line passed (10 ∷ rest) ≡ standing_from (suc line) false rest
  unfolding standing_from
  at_end_lem passed rest = refl

  at_origin : (bs : List ℕ) → standing_from line false (9 ∷ 64 ∷ bs) ≡ told line (decimal 1024 bs) ++ standing_from line true bs
  unfolding standing_from
  at_origin bs = refl

  no_number : (rest : List ℕ) → told line (decimal 1024 (45 ∷ 10 ∷ rest)) ≡ []
  unfolding told decimal spelt run digit_of
  no_number rest = refl

  number_told : (n : ℕ) (rest : List ℕ) → n < 1024 → line < 1024 → told line (decimal 1024 (in_decimal n ++ (10 ∷ rest))) ≡ stands_at n line
  unfolding told digit_of
  number_told n rest h few = rw (decimal_reads 1024 n 10 rest h (omega arith), lt-ltb line 1024 few)

  -- its origin says which line it was
  origin_says : (o : ℕ) (rest : List ℕ) → o ≤ 1024 → line < 1024
      → standing_from line false (9 ∷ (origin_text o ++ (10 ∷ rest))) ≡ sentence o line ++ standing_from (suc line) false rest
  unfolding origin_text sentence
  origin_says zero rest h few =
      at_origin (45 ∷ 10 ∷ rest) ∙ rw (no_number rest) (word_passes true (45 ∷ []) (10 ∷ rest) (record { high = omega arith; other = λ e. omega (arith, e) }, tt) ∙ at_end_lem true rest)
  origin_says (suc n) rest h few =
      at_origin (in_decimal n ++ (10 ∷ rest))
      ∙ rw (number_told n rest (omega (arith, h)) few) (ap (λ (l : List ℕ). stands_at n line ++ l) (name_passes true (in_decimal n) (10 ∷ rest) (decimal_plain n) ∙ at_end_lem true rest))

line_says : (given all : List Tree) (line : ℕ) (t : Tree) (rest : List ℕ) → length given ≤ 1024 → line < 1024
    → standing_from line false (traced_line given all t ++ rest) ≡ sentence (origin_of given t) line ++ standing_from (suc line) false rest
line_says given all line t rest h few =
    ap (standing_from line false) (traced_splits given all t rest)
    ∙ head_passes line t _ ∙ tail_passes line all t _ ∙ origin_says line (origin_of given t) rest (omega (arith, h, origin_few given t)) few

-- ---- a listing

text_says : (given all : List Tree) → length given ≤ 1024 → (line : ℕ) (ts : List Tree) → line + length ts ≤ 1024
    → standing_from line false (traced_text given all ts) ≡ saying given line ts
unfolding traced_text standing_from saying
text_says given all h line [] few = refl
text_says given all h line (t ∷ ts) few =
    line_says given all line t (traced_text given all ts) h (omega (arith, few))
    ∙ ap (λ (l : List ℕ). sentence (origin_of given t) line ++ l) (text_says given all h (suc line) ts (omega (arith, few)))

-- "which line of the job it was": said of each line of the result whose tree a line of the job gave, in their order, and of no other
pub standing_says : (given : List Tree) → length given ≤ 1024 → (t : Tree) → length (order t) ≤ 1024 → standing (traced_text_of given t) ≡ saying given 0 (order t)
standing_says given h t few = text_says given (order t) h 0 (order t) (omega (arith, few))

-- ---- an example, which antt computes: of (a-b)-b, where the job had `v·1`, `v·0` and no difference

abbrev a : Tree
a = leaf (variable 0)

abbrev b : Tree
b = leaf (variable 1)

said : saying (b ∷ a ∷ []) 0 (order (infixed InfixOperator.Minus (infixed InfixOperator.Minus a b) b))
    ≡ bytes "line 1 of the job stands at line 0 of the result\nline 0 of the job stands at line 1 of the result\n"
unfolding saying sentence origin_of finished once among alike alike_leaves place in_decimal digits digits_by byte_of
said = refl
