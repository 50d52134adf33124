-- What is written reads back, without origins and with them: `reads_back`, `reads_back_traced`; and writing again gives the same bytes,
-- `writes_again`. Assumes nothing.
use mathlib.Core.Path.{◌≡◌, refl, sym, ap, ◌∙◌}
use mathlib.Core.List.{List, [], ◌∷◌, ◌++◌, append_assoc, append-nil}
use mathlib.Core.Logic.{⊎_elim}
use mathlib.Core.Bool.{Bool, true, false}
use Prim.Native.Nat.{ℕ, ◌^◌, ◌≤◌, ◌<◌}
use native.Mathlib.Nat.{eq-or-lt_of_le}
use native.Mathlib.Omega.{arith}
use native.Mathlib.Decide.{dec_lt}
use lib.ListN.{length, get_or, length-append, get_or-append}
use lib.Seq.{get_or_at}
use borrow.Author.Tests.{lt-ltb, le-ltb}
use Rattle.complex.specs.Bits.{bits_of}
use Rattle.complex.proofs.Doubles.{double_back, bits_below}
use Rattle.expression.specs.declared.InfixOperator.{InfixOperator}
use Rattle.expression.specs.declared.PrefixOperator.{PrefixOperator}
use Rattle.expression.specs.declared.ExpressionFunction.{ExpressionFunction}
use Rattle.expression.specs.Codes.{infix_code, prefix_code, function_code}
use Rattle.expression.specs.Trees.{Tree, leaf, number, pi, variable, cell, function_call, prefixed, infixed, size, depth}
use Rattle.expression.specs.Alike.{identical}
use Rattle.expression.specs.Limits.{Limited, Proper, largest, deepest}
use Rattle.expression.proofs.Numbering.{infix_back, prefix_back, function_back}
use Rattle.expression.proofs.Likeness.{identical_same}
use Rattle.memory.specs.Marks.{no_marks}
use Rattle.store.specs.Storing as Storing
use Rattle.store.specs.Storing.{State, state, fresh, among, place, intern, nothing}
use Rattle.store.proofs.Places.{place_within, place_hit, place_old, among_no}
use Rattle.origins.specs.Fields.{line_end, origin_text}
use Rattle.origins.proofs.Ending.{end_lf, end_field}
use Rattle.store.specs.Origins.{origin_of}
use Rattle.text.specs.Reading.{Read, is, then, tab, ended, digit_of, decimal, hex, name_field, name_from, starts}
use Rattle.text.specs.Writing.{in_decimal, in_hex, line}
use Rattle.text.specs.Lines as Lines
use Rattle.text.specs.Lines.{goes, lines, after_line, none}
use Rattle.text.proofs.Lining.{no_line, next_line_lem}
use Rattle.listing.proofs.Shortening.{listing_shortens}
use Rattle.text.proofs.RoundTrip.{decimal_reads, decimal_field_lem, hex_reads, hex_field_lem}
use Rattle.listing.specs.Listings.{Swap, Known, known, stored, formed, node_line, listing_line, accepted, rooted, last, whole, listing}
use Rattle.spelling.specs.Names.{function_names, prefix_names, infix_names, named}
use Rattle.node_lines.specs.NodeLines.{child_by, child_field, number_fields, variable_fields, cell_fields, function_fields, prefix_fields, infix_fields, fields_of, pi_line, line_by, node_fields}
use Rattle.writing.specs.Order.{finished, order, line_fields, text, text_of}
use Rattle.writing.specs.Origins.{traced_line, traced_text, traced_text_of}
use Rattle.writing.specs.Ordering.{KidsIn, Laid, empty, more}
use Rattle.writing.proofs.LineParts.{head_of, child_text, tail_of, head_no_s, plain_splits, traced_splits}
use Rattle.writing.proofs.FirstLine.{origin_few}
use Rattle.writing.proofs.Orders.{all_is, true_not_false, once_new, finished_laid, not_yet}

-- ---- names

function_named : (f : ExpressionFunction) (rest : List ℕ) → name_field tab function_names (named function_names (function_code f) ++ 9 ∷ rest) ≡ is (function_code f) rest
unfolding name_from starts ended
function_named ExpressionFunction.Sine rest = refl
function_named ExpressionFunction.Cosine rest = refl
function_named ExpressionFunction.Exponent rest = refl
function_named ExpressionFunction.SquareRoot rest = refl
function_named ExpressionFunction.Cis rest = refl

prefix_named : (o : PrefixOperator) (rest : List ℕ) → name_field tab prefix_names (named prefix_names (prefix_code o) ++ 9 ∷ rest) ≡ is (prefix_code o) rest
unfolding name_from starts ended
prefix_named PrefixOperator.Plus rest = refl
prefix_named PrefixOperator.Minus rest = refl

infix_named : (o : InfixOperator) (rest : List ℕ) → name_field tab infix_names (named infix_names (infix_code o) ++ 9 ∷ rest) ≡ is (infix_code o) rest
unfolding name_from starts ended
infix_named InfixOperator.Plus rest = refl
infix_named InfixOperator.Minus rest = refl
infix_named InfixOperator.Star rest = refl
infix_named InfixOperator.Slash rest = refl
infix_named InfixOperator.Caret rest = refl

-- ---- operands

abbrev pub Propers : List Tree → Type 0
Propers ts = (k : ℕ) → k < length ts → Proper (get_or ts k (leaf pi))

-- what ends a line after its last field: a byte that is no digit, and all up to the next line
pub record Closes (after rest : List ℕ) : Type 0 where
  pub stop : ℕ
  pub behind : List ℕ
  pub starts_so : after ≡ stop ∷ behind
  pub no_digit_lem : 10 ≤ digit_of stop
  pub closes : (x : ℕ) → line_end (is x after) ≡ is x rest

no_tab : 10 ≤ digit_of 9
unfolding digit_of
no_tab = omega arith

no_lf : 10 ≤ digit_of 10
unfolding digit_of
no_lf = omega arith

plain_closes : (rest : List ℕ) → Closes (10 ∷ rest) rest
plain_closes rest = record { stop = 10; behind = rest; starts_so = refl; no_digit_lem = no_lf; closes = λ x. end_lf x rest }

traced_closes : (o : ℕ) (rest : List ℕ) → o ≤ 1024 → Closes (9 ∷ (origin_text o ++ (10 ∷ rest))) rest
traced_closes o rest h = record { stop = 9; behind = origin_text o ++ (10 ∷ rest); starts_so = refl; no_digit_lem = no_tab; closes = λ x. end_field x o rest h }

module _ {after rest : List ℕ} (c : Closes after rest) where
  last_decimal : (limit n : ℕ) → n < limit → line_end (decimal limit (in_decimal n ++ after)) ≡ is n rest
  last_decimal limit n h =
      let d = decimal_reads limit n c.stop c.behind h c.no_digit_lem in
      ap line_end (rw (← c.starts_so) at d) ∙ c.closes n

  last_hex_lem : (n : ℕ) → n < 2 ^ 64 → line_end (hex (in_hex n ++ after)) ≡ is n rest
  last_hex_lem n h = ap line_end (hex_reads n after h) ∙ c.closes n

module _ (done later : List Tree) (propers : Propers done) where
  -- an operand's number reads as its tree, where numbers read at all
  child_reads : (end : Read ℕ → Read ℕ) (c : Tree) (after rest : List ℕ) → ((i : ℕ) → i < length done → end (decimal (length done) (in_decimal i ++ after)) ≡ is i rest)
      → among done c ≡ true → Proper c → child_by end done (child_text (done ++ later) c ++ after) ≡ is c rest
  unfolding child_by then
  child_reads end c after rest f a p =
      ⊎_elim (λ z. true_not_false (sym a ∙ among_no done c z))
      (λ o. let e = place_old (identical c) done later o in
      let t = identical_same c (get_or done (place (identical c) done) (leaf pi)) p (propers (place (identical c) done) o) (place_hit (identical c) done o) in
      rw (e, f (place (identical c) done) o, ← t))
      (eq-or-lt_of_le (place_within (identical c) done))

  first_child : (c : Tree) (rest : List ℕ) → among done c ≡ true → Proper c → child_field 9 done (child_text (done ++ later) c ++ 9 ∷ rest) ≡ is c rest
  first_child c rest = child_reads (ended 9) c (9 ∷ rest) rest λ i o. decimal_field_lem 9 (length done) i rest o no_tab

  last_child : (c : Tree) {after rest : List ℕ} → Closes after rest → among done c ≡ true → Proper c → child_by line_end done (child_text (done ++ later) c ++ after) ≡ is c rest
  last_child c {after} {rest} e = child_reads line_end c after rest λ i o. last_decimal e (length done) i o

  line_reads : (t : Tree) {after rest : List ℕ} → Closes after rest → KidsIn done t → Proper t → node_fields done (head_of t) (tail_of (done ++ later) t after) ≡ is t rest
  unfolding line_by pi_line fields_of number_fields variable_fields cell_fields function_fields prefix_fields infix_fields then ended
  line_reads (leaf (number z)) {after} {rest} e k p =
      rw (
        hex_field_lem 9 (bits_of z.re) (in_hex (bits_of z.im) ++ after) (bits_below z.re p.re),
        last_hex_lem e (bits_of z.im) (bits_below z.im p.im),
        double_back z.re p.re,
        double_back z.im p.im,
      )
  line_reads (leaf pi) e k p = rw (e.closes 0)
  line_reads (leaf (variable v)) e k p = rw (last_decimal e 65536 v p)
  line_reads (leaf (cell r i)) {after} e k p = rw (decimal_field_lem 9 65536 r (in_decimal i ++ after) p.0 no_tab, last_decimal e 4294967296 i p.1)
  line_reads (function_call f t) {after} e k p =
      rw (function_named f (child_text (done ++ later) t ++ after), last_child t e (all_is done t k) p, function_back f)
  line_reads (prefixed o t) {after} e k p =
      rw (prefix_named o (child_text (done ++ later) t ++ after), last_child t e (all_is done t k) p, prefix_back o)
  line_reads (infixed o l r) {after} e k p =
      rw (
        infix_named o (child_text (done ++ later) l ++ 9 ∷ (child_text (done ++ later) r ++ after)),
        first_child l (child_text (done ++ later) r ++ after) (all_is done l k.0) p.0,
        last_child r e (all_is done r k.1) p.1,
        infix_back o,
      )

-- ---- a line

-- the store after some lines of a written listing has just these trees
abbrev pub store_of : (room : ℕ) → List Tree → State
store_of room ts = state room ts (λ t. nothing) (record { calls = 0; marks = no_marks })

abbrev known_of : (room : ℕ) → List Tree → Known
known_of room ts = known ts [] (store_of room ts)

-- what makes a tree the next line after some
pub record Next (done : List Tree) (t : Tree) : Type 0 where
  pub kids : KidsIn done t
  pub new : among done t ≡ false
  pub is_proper : Proper t
  pub is_limited : Limited t

stores : (room : ℕ) (done : List Tree) (t : Tree) → Next done t → length done < room → intern t (store_of room done) ≡ Storing.gives t (store_of room (done ++ (t ∷ [])))
unfolding intern
stores room done t n h =
    rw (n.new, le-ltb largest (size t) n.is_limited.sized, le-ltb deepest (depth t) n.is_limited.shallow, lt-ltb (length done) room h)

takes : (substituting : Bool) (room : ℕ) (done later : List Tree) (t : Tree) {after rest : List ℕ} → Closes after rest → Propers done → Next done t → length done < 1024 → length done < room
    → listing_line substituting (known_of room done) (head_of t) (tail_of (done ++ later) t after) ≡ goes (known_of room (done ++ (t ∷ []))) rest
unfolding listing_line node_line none formed stored
takes substituting room done later t e p n few room_left =
    rw (head_no_s t, lt-ltb (length done) 1024 few, line_reads done later p t e n.kids n.is_proper, stores room done t n room_left)

-- ---- all lines

abbrev pub Follow : (done later : List Tree) → Type 0
Follow done [] = Unit {0}
Follow done (t ∷ later) = Next done t × Follow (done ++ (t ∷ [])) later

follow_snoc : (done ts : List Tree) (t : Tree) → Follow done ts → Next (done ++ ts) t → Follow done (ts ++ (t ∷ []))
follow_snoc done [] t f n = (rw (append-nil done) at n, tt)
follow_snoc done (s ∷ ts) t f n = (f.0, follow_snoc (done ++ (s ∷ [])) ts t f.1 (rw (append_assoc done (s ∷ []) ts) n))

laid_follow : {ts : List Tree} → Laid ts → Follow [] ts
laid_follow empty = tt
laid_follow (more {ts} t b k new p l) = follow_snoc [] ts t (laid_follow b) (record { kids = k; new = new; is_proper = p; is_limited = l })

propers_snoc : (ts : List Tree) (t : Tree) → Propers ts → Proper t → Propers (ts ++ (t ∷ []))
propers_snoc ts t ps p k h = go (dec_lt k (length ts))
  where
    go : Dec (k < length ts) → Proper (get_or (ts ++ (t ∷ [])) k (leaf pi))
    go (yes y) = rw (get_or-append ts (t ∷ []) (leaf pi) k y) (ps k y)
    go (no n) = let z : k ≡ length ts = omega (arith, length-append ts (t ∷ [])) in rw (z, get_or_at ts t [] (leaf pi) (length ts) refl) p

-- a line's bytes and the next lines, as the first byte, the fields and what ends the line
record Split (all : List Tree) (each : Tree → List ℕ) (t : Tree) (rest : List ℕ) : Type 0 where
  pub after : List ℕ
  pub splits : each t ++ rest ≡ head_of t ∷ tail_of all t after
  pub ends : Closes after rest

unfoldable joined : (each : Tree → List ℕ) → List Tree → List ℕ
joined each [] = []
joined each (t ∷ ts) = each t ++ joined each ts

module _ (substituting : Bool) (room : ℕ) (all : List Tree) (each : Tree → List ℕ) (split : (t : Tree) (rest : List ℕ) → Split all each t rest) (few : length all ≤ 1024) (r : length all ≤ room) where
  all_read : (later done : List Tree) → done ++ later ≡ all → Propers done → Follow done later
      → lines (listing_line substituting) (known_of room done) (joined each later) ≡ Lines.read (known_of room all)
  unfolding after_line joined
  all_read [] done e ps f = rw (← e, append-nil done) (no_line (listing_line substituting) (listing_shortens substituting) (known_of room done))
  all_read (t ∷ later) done e ps f =
      let l = ap length (sym e) ∙ length-append done (t ∷ later) in
      let a : (done ++ (t ∷ [])) ++ later ≡ all = append_assoc done (t ∷ []) later ∙ e in
      let s = split t (joined each later) in
      let here = takes substituting room done (t ∷ later) t s.ends ps f.0 (omega (arith, l, few)) (omega (arith, l, r)) in
      rw (
        s.splits,
        next_line_lem (listing_line substituting) (listing_shortens substituting) (known_of room done) (head_of t) (tail_of all t s.after),
        rw e at here,
      )
      (all_read later (done ++ (t ∷ [])) a (propers_snoc done t ps f.0.is_proper) f.1)

-- a listing without origins, and one with them

plain_split : (all : List Tree) (t : Tree) (rest : List ℕ) → Split all (λ t. line (line_fields all t)) t rest
plain_split all t rest = record { after = 10 ∷ rest; splits = plain_splits all t rest; ends = plain_closes rest }

traced_split : (given : List Tree) → length given ≤ 1024 → (all : List Tree) (t : Tree) (rest : List ℕ) → Split all (traced_line given all) t rest
traced_split given h all t rest = record {
  after = 9 ∷ (origin_text (origin_of given t) ++ (10 ∷ rest));
  splits = traced_splits given all t rest;
  ends = traced_closes (origin_of given t) rest (omega (arith, h, origin_few given t));
}

text_joined : (all ts : List Tree) → text all ts ≡ joined (λ t. line (line_fields all t)) ts
unfolding text joined
text_joined all [] = refl
text_joined all (t ∷ ts) = ap (λ (l : List ℕ). line (line_fields all t) ++ l) (text_joined all ts)

traced_joined : (given all ts : List Tree) → traced_text given all ts ≡ joined (traced_line given all) ts
unfolding traced_text joined
traced_joined given all [] = refl
traced_joined given all (t ∷ ts) = ap (λ (l : List ℕ). traced_line given all t ++ l) (traced_joined given all ts)

-- ---- the root is the last line

pub record Ends (t : Tree) : Type 0 where
  pub before : List Tree
  pub is_order : order t ≡ before ++ (t ∷ [])

order_ends : (t : Tree) → Proper t → Ends t
unfolding finished size depth among
order_ends (leaf l) p = record { before = []; is_order = once_new (leaf l) [] refl }
order_ends (function_call f t) p = record { before = finished t []; is_order = once_new _ _ (not_yet t (function_call f t) [] p p (omega arith) refl) }
order_ends (prefixed o t) p = record { before = finished t []; is_order = once_new _ _ (not_yet t (prefixed o t) [] p p (omega arith) refl) }
order_ends (infixed o l r) p = record {
  before = finished r (finished l []);
  is_order = once_new _ _ (not_yet r (infixed o l r) (finished l []) p.1 p (omega arith) (not_yet l (infixed o l r) [] p.0 p (omega arith) refl));
}

last_is : (t u : Tree) (ts : List Tree) → last u (ts ++ (t ∷ [])) ≡ t
unfolding last
last_is t u [] = refl
last_is t u (v ∷ ts) = last_is t v ts

rooted_last : (ts : List Tree) (t : Tree) (σ : State) → rooted (ts ++ (t ∷ [])) [] σ ≡ accepted t [] σ
unfolding rooted last
rooted_last [] t σ = refl
rooted_last (u ∷ ts) t σ = rw (last_is t u ts)

-- ---- the theorem

module _ (t : Tree) (p : Proper t) (l : Limited t) (substituting : Bool) (room : ℕ) (few : length (order t) ≤ 1024) (r : length (order t) ≤ room) where
  reads : (each : Tree → List ℕ) → ((u : Tree) (rest : List ℕ) → Split (order t) each u rest)
      → listing substituting (joined each (order t)) (fresh room 0) ≡ accepted t [] (store_of room (order t))
  unfolding listing whole
  reads each split =
      let f = laid_follow (finished_laid t [] empty p l).0 in
      let e = all_read substituting room (order t) each split few r (order t) [] refl (λ k h. absurd (omega arith)) f in
      let o = order_ends t p in
      ap whole e ∙ ap (λ ts. rooted ts [] (store_of room (order t))) o.is_order ∙ rooted_last o.before t (store_of room (order t))

-- "A listing written out reads back to the same expression, given as much work memory": where the written listing has at most 1024 lines, and there is
-- room for its trees, reading it is accepted; the root is the tree, and the store holds its subtrees in the written order.
pub reads_back : (t : Tree) → Proper t → Limited t → (substituting : Bool) (room : ℕ) → length (order t) ≤ 1024 → length (order t) ≤ room
    → listing substituting (text_of t) (fresh room 0) ≡ accepted t [] (store_of room (order t))
reads_back t p l substituting room few r =
    rw (text_joined (order t) (order t)) (reads t p l substituting room few r (λ u. line (line_fields (order t) u)) (plain_split (order t)))

-- so does one with origins, whatever lines they name
pub reads_back_traced : (given : List Tree) → length given ≤ 1024 → (t : Tree) → Proper t → Limited t → (substituting : Bool) (room : ℕ) → length (order t) ≤ 1024 → length (order t) ≤ room
    → listing substituting (traced_text_of given t) (fresh room 0) ≡ accepted t [] (store_of room (order t))
reads_back_traced given h t p l substituting room few r =
    rw (traced_joined given (order t) (order t)) (reads t p l substituting room few r (traced_line given (order t)) (traced_split given h (order t)))

-- so whatever is read of it is written as the same bytes
pub writes_again : (t : Tree) → Proper t → Limited t → (substituting : Bool) (room : ℕ) → length (order t) ≤ 1024 → length (order t) ≤ room
    → (u : Tree) (swaps : List Swap) (σ : State) → listing substituting (text_of t) (fresh room 0) ≡ accepted u swaps σ → text_of u ≡ text_of t
writes_again t p l substituting room few r u swaps σ e =
    let q = sym (reads_back t p l substituting room few r) ∙ e in
    let z : t ≡ u = cc in
    rw z
