-- Where the readers stand: a line whose fields all read ends at its first LF, so that the line at which a text is refused is the one that its number names,
-- and the fault is told of that line. Assumes nothing.
use mathlib.Core.Path.{◌≡◌, refl, sym, ap, ◌∙◌}
use mathlib.Core.List.{List, [], ◌∷◌, ◌++◌, map}
use mathlib.Core.Bool.{Bool, true, false, cond}
use Prim.Native.Nat.{ℕ, zero, suc, ◌+◌, ◌-◌, ◌/◌, ◌%◌, ◌<◌}
use native.Mathlib.Omega.{arith}
use native.Mathlib.Decide.{dec_lt, ℕ_discrete}
use lib.ListN.{length, get_or, length-append}
use lib.Dec.{eqb}
use borrow.Author.Tests.{lt-ltb, le-ltb, eq-eqb, ne_eqb}
use Rattle.spelling.specs.Names.{function_names, operation_names, prefix_names, infix_names}
use Rattle.text.specs.Letters.{letter, bytes}
use Rattle.text.specs.Reading.{is, tab, lf, ended, starts}
use Rattle.text.specs.Writing.{byte_of, in_decimal, last_hex, in_hex}
use Rattle.text.specs.Digits.{digits}
use Rattle.text.specs.Lines as Lines
use Rattle.text.specs.Lines.{Line, goes, stops, lines_by, lines, at_line}
use Rattle.text.proofs.Only.{ended_only, decimal_only, hex_only, name_only}
use Rattle.origins.specs.Fields.{origin_text}
use Rattle.origins.proofs.Ending.{origin_only}
use Rattle.faults.specs.Faulting.{words_of, read, node_form, has_at, form_with, listing_form, sheet_form, stop_of, after_line, from_line}
use Rattle.faults.proofs.Passing.{apart, a_double, a_number, an_origin, a_name, reader, Passes, done, field, stop_more}

-- ---- bytes with no LF among them

unfoldable pub feedless : List ℕ → Bool
feedless [] = true
feedless (b ∷ bs) = cond (eqb b lf) false (feedless bs)

pub no_feed : (b : ℕ) (bs : List ℕ) → feedless (b ∷ bs) ≡ true → (b ≡ 10 → ⊥) × (feedless bs ≡ true)
unfolding feedless
no_feed b bs e = elim (ℕ_discrete b 10) [
  | yes q ↦ apart (rw (eq-eqb b 10 q) at e)
  | no n ↦ (n, rw (ne_eqb b 10 n) at e)
]

feedless_more : (b : ℕ) (bs : List ℕ) → (b ≡ 10 → ⊥) → feedless bs ≡ true → feedless (b ∷ bs) ≡ true
unfolding feedless
feedless_more b bs n e = rw (ne_eqb b 10 n) e

feedless_append : (xs ys : List ℕ) → feedless xs ≡ true → feedless ys ≡ true → feedless (xs ++ ys) ≡ true
feedless_append [] ys e f = f
feedless_append (x ∷ xs) ys e f = feedless_more x (xs ++ ys) (no_feed x xs e).0 (feedless_append xs ys (no_feed x xs e).1 f)

form_if : (b : Bool) (xs ys : List ℕ) → (feedless xs ≡ true) × (0 < length xs) → (feedless ys ≡ true) × (0 < length ys) → (feedless (cond b xs ys) ≡ true) × (0 < length (cond b xs ys))
form_if true xs ys e f = e
form_if false xs ys e f = f

-- they are passed over
over : (xs bs : List ℕ) → feedless xs ≡ true → after_line (xs ++ bs) ≡ after_line bs
unfolding after_line
over [] bs e = refl
over (x ∷ xs) bs e = rw (ne_eqb x 10 (no_feed x xs e).0) (over xs bs (no_feed x xs e).1)

-- ---- bytes with no LF and no `@` among them

unfoldable pub clean : List ℕ → Bool
clean [] = true
clean (b ∷ bs) = cond (eqb b lf) false (cond (eqb b (letter "@")) false (clean bs))

no_mark : (b : ℕ) (bs : List ℕ) → clean (b ∷ bs) ≡ true → (b ≡ 10 → ⊥) × (b ≡ 64 → ⊥) × (clean bs ≡ true)
unfolding clean
no_mark b bs e = elim (ℕ_discrete b 10) [
  | yes q ↦ apart (rw (eq-eqb b 10 q) at e)
  | no n ↦ elim (ℕ_discrete b 64) [
    | yes q ↦ apart (rw (ne_eqb b 10 n, eq-eqb b 64 q) at e)
    | no m ↦ (n, m, rw (ne_eqb b 10 n, ne_eqb b 64 m) at e)
  ]
]

clean_more : (b : ℕ) (bs : List ℕ) → (b ≡ 10 → ⊥) → (b ≡ 64 → ⊥) → clean bs ≡ true → clean (b ∷ bs) ≡ true
unfolding clean
clean_more b bs n m e = rw (ne_eqb b 10 n, ne_eqb b 64 m) e

clean_append : (xs ys : List ℕ) → clean xs ≡ true → clean ys ≡ true → clean (xs ++ ys) ≡ true
clean_append [] ys e f = f
clean_append (x ∷ xs) ys e f = let k = no_mark x xs e in clean_more x (xs ++ ys) k.0 k.1 (clean_append xs ys k.2 f)

pub clean_feedless : (xs : List ℕ) → clean xs ≡ true → feedless xs ≡ true
unfolding feedless
clean_feedless [] e = refl
clean_feedless (x ∷ xs) e = let k = no_mark x xs e in feedless_more x xs k.0 (clean_feedless xs k.2)

-- they are passed over where an `@` is looked for
at_over : (xs bs : List ℕ) → clean xs ≡ true → has_at (xs ++ bs) ≡ has_at bs
unfolding has_at
at_over [] bs e = refl
at_over (x ∷ xs) bs e = let k = no_mark x xs e in rw (ne_eqb x 10 k.0, ne_eqb x 64 k.1) (at_over xs bs k.2)

-- ---- digits and names are such

byte_clean : (d : ℕ) → (byte_of d ≡ 10 → ⊥) × (byte_of d ≡ 64 → ⊥)
unfolding byte_of
byte_clean d = elim (dec_lt d 10) [
  | yes lt ↦ rw (lt-ltb d 10 lt) (λ e. omega (arith, e), λ e. omega (arith, e, lt))
  | no ge ↦ rw (le-ltb d 10 (omega arith)) (λ e. omega (arith, e), λ e. omega (arith, e))
]

digits_clean : (ds : List ℕ) → clean (map byte_of ds) ≡ true
unfolding clean
digits_clean [] = refl
digits_clean (d ∷ ds) = clean_more (byte_of d) (map byte_of ds) (byte_clean d).0 (byte_clean d).1 (digits_clean ds)

decimal_clean : (n : ℕ) → clean (in_decimal n) ≡ true
unfolding in_decimal
decimal_clean n = digits_clean (digits n)

last_clean : (k n : ℕ) → clean (last_hex k n) ≡ true
unfolding last_hex clean
last_clean zero n = refl
last_clean (suc k) n = clean_append (last_hex k (n / 16)) (byte_of (n % 16) ∷ []) (last_clean k (n / 16)) (clean_more (byte_of (n % 16)) [] (byte_clean (n % 16)).0 (byte_clean (n % 16)).1 refl)

hex_clean : (n : ℕ) → clean (in_hex n) ≡ true
unfolding in_hex
hex_clean n = last_clean 16 n

unfoldable pub all_clean : List (List ℕ) → Bool
all_clean [] = true
all_clean (w ∷ ws) = cond (clean w) (all_clean ws) false

pub both : (b c : Bool) → cond b c false ≡ true → (b ≡ true) × (c ≡ true)
both true c e = (refl, e)
both false c e = apart e

among : (ws : List (List ℕ)) (k : ℕ) → all_clean ws ≡ true → clean (get_or ws k []) ≡ true
unfolding all_clean clean
among [] zero e = refl
among [] (suc k) e = refl
among (w ∷ ws) zero e = (both (clean w) (all_clean ws) e).0
among (w ∷ ws) (suc k) e = among ws k (both (clean w) (all_clean ws) e).1

pub words_clean : (kind : ℕ) → (kind ≡ 10 → ⊥) → (kind ≡ 64 → ⊥) → all_clean (words_of kind) ≡ true
unfolding words_of all_clean clean
words_clean kind n m =
    if_all (eqb kind 70) function_names _ refl
    (if_all (eqb kind 79) operation_names _ refl
    (if_all (eqb kind 85) prefix_names _ refl
    (if_all (eqb kind 66) infix_names _ refl
    (if_all (eqb kind 90) (bytes "0000000000000000" ∷ []) ((kind ∷ []) ∷ []) refl
    (rw (ne_eqb kind 10 n, ne_eqb kind 64 m))))))
  where
    if_all : (b : Bool) (xs ys : List (List ℕ)) → all_clean xs ≡ true → all_clean ys ≡ true → all_clean (cond b xs ys) ≡ true
    if_all true xs ys e f = e
    if_all false xs ys e f = f

-- the field of an origin has an `@`, and no LF
origin_feedless : (o : ℕ) → feedless (origin_text o) ≡ true
unfolding origin_text feedless
origin_feedless zero = refl
origin_feedless (suc n) = clean_feedless (in_decimal n) (decimal_clean n)

-- ---- a field passes no LF

-- what was passed
passed : (P : List ℕ → Type 0) (kind : ℕ) (bs : List ℕ) {v : ℕ} {rest : List ℕ} → (kind ≡ 10 → ⊥) → (kind ≡ 64 → ⊥) → read kind bs ≡ is v rest
    → ((xs : List ℕ) → clean xs ≡ true → P (xs ++ rest)) → P bs
passed P kind bs {v} {rest} n m e on = elim (reader kind) [
  | a_double r ↦ rw (hex_only v bs rest (sym (r bs) ∙ e)).1 (on (in_hex v) (hex_clean v))
  | a_number limit r ↦ rw (decimal_only limit v bs rest (sym (r bs) ∙ e)).1 (on (in_decimal v) (decimal_clean v))
  | an_origin q r ↦ absurd (m q)
  | a_name q r ↦
      let w = name_only 1 v (words_of kind) bs rest (sym (r bs) ∙ e) in
      rw w.word (on (get_or (words_of kind) (v - 1) []) (among (words_of kind) (v - 1) (words_clean kind n m)))
]

field_over : (kind : ℕ) (bs : List ℕ) {v : ℕ} {rest : List ℕ} → (kind ≡ 10 → ⊥) → read kind bs ≡ is v rest → after_line bs ≡ after_line rest
unfolding read
field_over kind bs {v} {rest} n e = elim (ℕ_discrete kind 64) [
  | yes q ↦ rw (origin_only v bs rest (rw q at e)).1 (over (origin_text v) rest (origin_feedless v))
  | no m ↦ passed (λ l. after_line l ≡ after_line rest) kind bs n m e λ xs c. over xs rest (clean_feedless xs c)
]

-- nor, but for that of an origin, an `@`
field_at : (kind : ℕ) (bs : List ℕ) {v : ℕ} {rest : List ℕ} → (kind ≡ 10 → ⊥) → (kind ≡ 64 → ⊥) → read kind bs ≡ is v rest → has_at bs ≡ has_at rest
field_at kind bs {rest = rest} n m e = passed (λ l. has_at l ≡ has_at rest) kind bs n m e λ xs c. at_over xs rest c

-- ---- a line that passes ends at its first LF

stop_last : stop_of 0 ≡ lf
unfolding stop_of
stop_last = refl

last_field : (kind : ℕ) (kinds bs : List ℕ) (v : ℕ) (mid rest : List ℕ) → (kind ≡ 10 → ⊥) → ended (stop_of (length kinds)) (read kind bs) ≡ is v mid → Passes kinds mid rest
    → (0 < length kinds → after_line mid ≡ rest) → after_line bs ≡ rest
unfolding after_line
last_field kind [] bs v mid rest n e (done q) later = field_over kind bs n (ended_only lf (read kind bs) v mid (rw stop_last at e)) ∙ q
last_field kind (k ∷ ks) bs v mid rest n e p later = field_over kind bs n (ended_only tab (read kind bs) v mid (rw (stop_more (length ks)) at e)) ∙ later (omega arith)

pub ends_at : {form bs rest : List ℕ} → Passes form bs rest → feedless form ≡ true → 0 < length form → after_line bs ≡ rest
ends_at (done q) f h = absurd (omega arith)
ends_at {rest = rest} (field {kind} {kinds} {bs} {v} {mid} e p) f h =
    last_field kind kinds bs v mid rest (no_feed kind kinds f).0 e p λ l. ends_at p (no_feed kind kinds f).1 l

-- ---- a line that passes has an `@` before its LF if its form has one

tab_field : (kind k : ℕ) (ks bs : List ℕ) {v : ℕ} {mid : List ℕ} → (kind ≡ 10 → ⊥) → (kind ≡ 64 → ⊥) → ended (stop_of (suc (length ks))) (read kind bs) ≡ is v mid → has_at bs ≡ has_at mid
unfolding has_at
tab_field kind k ks bs {v} {mid} n m e = field_at kind bs n m (ended_only tab (read kind bs) v mid (rw (stop_more (length ks)) at e))

pub plain_at : {bs rest : List ℕ} (form : List ℕ) → Passes form bs rest → clean form ≡ true → 0 < length form → has_at bs ≡ false
unfolding has_at
plain_at [] p c h = absurd (omega arith)
plain_at {bs} (kind ∷ []) (field {v} {mid} e p) c h =
    let k = no_mark kind [] c in
    field_at kind bs k.0 k.1 (ended_only lf (read kind bs) v mid (rw stop_last at e))
plain_at {bs} (kind ∷ k ∷ ks) (field {v} {mid} e p) c h =
    let f = no_mark kind (k ∷ ks) c in
    tab_field kind k ks bs f.0 f.1 e ∙ plain_at (k ∷ ks) p f.2 (omega arith)

origin_has : (o : ℕ) (bs : List ℕ) → has_at (origin_text o ++ bs) ≡ true
unfolding origin_text has_at
origin_has zero bs = refl
origin_has (suc n) bs = refl

pub origin_at_lem : {bs rest : List ℕ} (form : List ℕ) → Passes (form ++ (64 ∷ [])) bs rest → clean form ≡ true → has_at bs ≡ true
unfolding read
origin_at_lem {bs} [] (field {v} {mid} e p) c = rw (origin_only v bs (10 ∷ mid) (ended_only lf (read 64 bs) v mid (rw stop_last at e))).1 (origin_has v (10 ∷ mid))
origin_at_lem {bs} (kind ∷ []) (field e p) c = let f = no_mark kind [] c in tab_field kind 64 [] bs f.0 f.1 e ∙ origin_at_lem [] p f.2
origin_at_lem {bs} (kind ∷ k ∷ ks) (field e p) c = let f = no_mark kind (k ∷ ks) c in tab_field kind k (ks ++ (64 ∷ [])) bs f.0 f.1 e ∙ origin_at_lem (k ∷ ks) p f.2

-- the forms of the lines are such, and each has a letter
clean_if : (b : Bool) (xs ys : List ℕ) → (clean xs ≡ true) × (0 < length xs) → (clean ys ≡ true) × (0 < length ys) → (clean (cond b xs ys) ≡ true) × (0 < length (cond b xs ys))
clean_if true xs ys e f = e
clean_if false xs ys e f = f

pub node_clean : (first : ℕ) → (clean (node_form first) ≡ true) × (0 < length (node_form first))
unfolding node_form clean
node_clean first =
    clean_if (eqb first 110) (bytes "nHH") _ (refl, omega arith)
    (clean_if (eqb first 112) (bytes "p") _ (refl, omega arith)
    (clean_if (eqb first 118) (bytes "vN") _ (refl, omega arith)
    (clean_if (eqb first 109) (bytes "mNI") _ (refl, omega arith)
    (clean_if (eqb first 102) (bytes "fFI") _ (refl, omega arith)
    (clean_if (eqb first 117) (bytes "uUI") _ (refl, omega arith)
    (clean_if (eqb first 98) (bytes "bBII") (bytes "n") (refl, omega arith) (refl, omega arith)))))))

with_feedless : (origin : Bool) (form : List ℕ) → feedless form ≡ true → 0 < length form → (feedless (form_with origin form) ≡ true) × (0 < length (form_with origin form))
unfolding form_with feedless
with_feedless true form e h = (feedless_append form (64 ∷ []) e refl, omega (arith, h, length-append form (64 ∷ [])))
with_feedless false form e h = (e, h)

pub listing_feedless : (first : ℕ) (line : List ℕ) → (feedless (listing_form first line) ≡ true) × (0 < length (listing_form first line))
unfolding listing_form feedless
listing_feedless first line =
    let c = node_clean first in
    form_if (eqb first 115) (bytes "sNI") (form_with (has_at line) (node_form first)) (refl, omega arith) (with_feedless (has_at line) (node_form first) (clean_feedless (node_form first) c.0) c.1)

pub sheet_feedless : (first : ℕ) (line : List ℕ) → (feedless (sheet_form first line) ≡ true) × (0 < length (sheet_form first line))
unfolding sheet_form feedless
sheet_feedless first line =
    form_if (eqb first 118) (bytes "vNHH") _ (refl, omega arith)
    (form_if (eqb first 109) (bytes "mNIH") _ (refl, omega arith)
    (form_if (starts (bytes "t\tpow") line) (bytes "tOHHHHHH") (bytes "tOHHZZHH") (refl, omega arith) (refl, omega arith)))

-- ---- the line at which a text is refused

-- the lines so far were taken, and the next one, which is there, is not
pub record Refusing {S R : Type 0} (line : S → ℕ → List ℕ → Line S R) (number : S → ℕ) (Fine : S → Type 0) (before : S) (bs : List ℕ) (why : R) : Type 0 where
  pub taken : ℕ
  pub known : S
  pub first : ℕ
  pub rest : List ℕ
  pub counted : number known ≡ taken + number before
  pub fine : Fine known
  pub there : from_line taken bs ≡ first ∷ rest
  pub stop : line known first rest ≡ stops why

pub record Next {S : Type 0} (number : S → ℕ) (Fine : S → Type 0) (before after : S) (bs rest : List ℕ) : Type 0 where
  pub ends : after_line bs ≡ rest
  pub one : number after ≡ suc (number before)
  pub fine : Fine after

module _ {S R : Type 0} (line : S → ℕ → List ℕ → Line S R) (number : S → ℕ) (Fine : S → Type 0)
    (next : (before : S) (b : ℕ) (bs : List ℕ) (after : S) (rest : List ℕ) → Fine before → line before b bs ≡ goes after rest → Next number Fine before after (b ∷ bs) rest) (why : R) where
  later : {before after : S} {bs rest : List ℕ} → Next number Fine before after bs rest → Refusing line number Fine after rest why → Refusing line number Fine before bs why
  unfolding from_line
  later n r = record {
    taken = suc r.taken;
    known = r.known;
    first = r.first;
    rest = r.rest;
    counted = r.counted ∙ omega (arith, n.one);
    fine = r.fine;
    there = ap (from_line r.taken) n.ends ∙ r.there;
    stop = r.stop;
  }

  not_read : {A : Type 0} {s : S} → Lines.read s ≡ Lines.refused why → A
  not_read e = let z : ◌≡◌ {A = ℕ} 0 1 = cc in absurd (omega arith)

  refusing : (fuel : ℕ) (before : S) (bs : List ℕ) → Fine before → lines_by fuel line before bs ≡ Lines.refused why → Refusing line number Fine before bs why
  unfolding lines_by at_line Lines.after_line from_line
  refusing zero before bs f e = not_read e
  refusing (suc fuel) before [] f e = not_read e
  refusing (suc fuel) before (b ∷ bs) f e = go (line before b bs) refl λ after rest g e. refusing fuel after rest g e
    where
      go : (l : Line S R) → line before b bs ≡ l → ((after : S) (rest : List ℕ) → Fine after → lines_by fuel line after rest ≡ Lines.refused why → Refusing line number Fine after rest why)
          → Refusing line number Fine before (b ∷ bs) why
      go (goes after rest) q on = let n = next before b bs after rest f q in later n (on after rest n.fine (rw q at e))
      go (stops w) q on =
          let g : Lines.refused w ≡ Lines.refused why = rw q at e in
          let y : w ≡ why = cc in
          record { taken = 0; known = before; first = b; rest = bs; counted = omega arith; fine = f; there = refl; stop = q ∙ ap stops y }

  pub refused_at : (before : S) (bs : List ℕ) → Fine before → lines line before bs ≡ Lines.refused why → Refusing line number Fine before bs why
  unfolding lines
  refused_at before bs f e = refusing (length bs) before bs f e
