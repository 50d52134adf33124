-- The fault NoLineFeed: with a line feed after the text the line's fields all read, so that nothing else is missing. Assumes nothing.
use mathlib.Core.Path.{◌≡◌, refl, sym, ap, ◌∙◌}
use mathlib.Core.List.{List, [], ◌∷◌, ◌++◌, append_assoc}
use mathlib.Core.Bool.{Bool, true, false, cond, ◌&&◌, ◌||◌}
use Prim.Native.Nat.{ℕ, zero, suc, ◌≤◌}
use native.Mathlib.Omega.{arith}
use native.Mathlib.Decide.{ℕ_discrete}
use lib.ListN.{length, drop}
use lib.Dec.{ltb, eqb}
use lib.Seq.{drop-append_seam}
use borrow.Author.Tests.{eq-eqb, ne_eqb}
use Rattle.text.specs.Letters.{letter}
use Rattle.text.specs.Reading.{Read, is, bad, then, tab, lf, ended, is_from, digit_of, run, spelt, decimal, hex, starts, name_from}
use Rattle.text.specs.Writing.{in_decimal, in_hex}
use Rattle.text.proofs.RoundTrip.{decimal_reads, hex_reads, ended_here}
use Rattle.text.proofs.Only.{never, decimal_only, hex_only, starts_only, ended_only}
use Rattle.origins.specs.Fields.{most_origins, after_at, origin, origin_text}
use Rattle.origins.proofs.Ending.{origin_only}
use Rattle.faults.specs.declared.Fault.{Fault}
use Rattle.faults.specs.Faulting.{words_of, read, told, base_of, no_digit, field_fault, stop_of, or_else, has_at, fault_in}
use Rattle.faults.proofs.Telling.{reads_on}
use Rattle.faults.proofs.Passing.{apart, a_double, a_number, an_origin, a_name, reader}
use Rattle.faults.proofs.Places.{feedless, no_feed, clean, clean_feedless, all_clean, both, words_clean}

abbrev feed : List ℕ
feed = 10 ∷ []

-- ---- a word that is read is read with a line feed after the text

starts_more : (w bs : List ℕ) → starts w bs ≡ true → starts w (bs ++ feed) ≡ true
unfolding starts
starts_more [] bs e = refl
starts_more (c ∷ w) [] e = apart e
starts_more (c ∷ w) (b ∷ bs) e = elim (ℕ_discrete b c) [
  | yes q ↦ rw (eq-eqb b c q) (starts_more w bs (rw (eq-eqb b c q) at e))
  | no n ↦ apart (rw (ne_eqb b c n) at e)
]

starts_less : (w bs : List ℕ) → feedless w ≡ true → starts w bs ≡ false → starts w (bs ++ feed) ≡ false
unfolding starts
starts_less [] bs f e = apart (sym e)
starts_less (c ∷ w) [] f e = rw (ne_eqb 10 c (λ q. (no_feed c w f).0 (sym q)))
starts_less (c ∷ w) (b ∷ bs) f e = elim (ℕ_discrete b c) [
  | yes q ↦ rw (eq-eqb b c q) (starts_less w bs (no_feed c w f).1 (rw (eq-eqb b c q) at e))
  | no n ↦ rw (ne_eqb b c n)
]

after_word : (w bs : List ℕ) → starts w bs ≡ true → drop (length w) (bs ++ feed) ≡ drop (length w) bs ++ feed
after_word w bs e =
    let s = starts_only w bs e in
    ap (λ (l : List ℕ). drop (length w) (l ++ feed)) s ∙ ap (drop (length w)) (append_assoc w (drop (length w) bs) feed) ∙ drop-append_seam w (drop (length w) bs ++ feed)

name_more : (number : ℕ) (ws : List (List ℕ)) (bs : List ℕ) {v : ℕ} {rest : List ℕ} → all_clean ws ≡ true → name_from number ws bs ≡ is v rest → name_from number ws (bs ++ feed) ≡ is v (rest ++ feed)
unfolding name_from all_clean
name_more number [] bs f e = never e
name_more number (w ∷ ws) bs {v} {rest} f e = go (starts w bs) refl (λ e. name_more (suc number) ws bs (both (clean w) (all_clean ws) f).1 e)
  where
    go : (b : Bool) → starts w bs ≡ b → (name_from (suc number) ws bs ≡ is v rest → name_from (suc number) ws (bs ++ feed) ≡ is v (rest ++ feed))
        → cond (starts w (bs ++ feed)) (is number (drop (length w) (bs ++ feed))) (name_from (suc number) ws (bs ++ feed)) ≡ is v (rest ++ feed)
    go true q later =
        let g : is number (drop (length w) bs) ≡ is v rest = rw q at e in
        let x : number ≡ v = cc in
        let y : drop (length w) bs ≡ rest = cc in
        rw (starts_more w bs q, after_word w bs q, x, y)
    go false q later = rw (starts_less w bs (clean_feedless w (both (clean w) (all_clean ws) f).0) q) (later (rw q at e))

-- ---- and so is a field, where no digit follows on it

data Tame : List ℕ → Type 0 where
  at_end : Tame []
  at_byte : {b : ℕ} {bs : List ℕ} → 10 ≤ digit_of b → Tame (b ∷ bs)

decimal_more : (limit : ℕ) (bs : List ℕ) {v : ℕ} {rest : List ℕ} → Tame rest → decimal limit bs ≡ is v rest → decimal limit (bs ++ feed) ≡ is v (rest ++ feed)
unfolding digit_of
decimal_more limit bs {v} at_end e =
    let d = decimal_only limit v bs [] e in
    ap (λ (l : List ℕ). decimal limit (l ++ feed)) d.1 ∙ ap (decimal limit) (append_assoc (in_decimal v) [] feed) ∙ decimal_reads limit v 10 [] d.0 (omega arith)
decimal_more limit bs {v} (at_byte {b} {bs = rest} h) e =
    let d = decimal_only limit v bs (b ∷ rest) e in
    ap (λ (l : List ℕ). decimal limit (l ++ feed)) d.1 ∙ ap (decimal limit) (append_assoc (in_decimal v) (b ∷ rest) feed) ∙ decimal_reads limit v b (rest ++ feed) d.0 h

hex_more : (bs : List ℕ) {v : ℕ} {rest : List ℕ} → hex bs ≡ is v rest → hex (bs ++ feed) ≡ is v (rest ++ feed)
hex_more bs {v} {rest} e =
    let d = hex_only v bs rest e in
    ap (λ (l : List ℕ). hex (l ++ feed)) d.1 ∙ ap hex (append_assoc (in_hex v) rest feed) ∙ hex_reads v (rest ++ feed) d.0

after_more : (n : ℕ) (bs rest : List ℕ) → decimal most_origins bs ≡ is n rest → after_at bs ≡ is (suc n) rest
unfolding after_at then decimal spelt run digit_of
after_more n [] rest e = never e
after_more n (b ∷ bs) rest e = elim (ℕ_discrete b 45) [ yes q ↦ never (rw q at e) | no o ↦ rw (ne_eqb b 45 o, e) ]

-- an origin, and on it the line feed after the text or what follows on it there
origin_on_lem : (v b : ℕ) (bs : List ℕ) → v ≤ 1024 → 10 ≤ digit_of b → origin (origin_text v ++ (b ∷ bs)) ≡ is v (b ∷ bs)
unfolding origin after_at origin_text
origin_on_lem zero b bs l h = refl
origin_on_lem (suc n) b bs l h = after_more n (in_decimal n ++ (b ∷ bs)) (b ∷ bs) (decimal_reads 1024 n b bs (omega (arith, l)) h)

origin_more : (bs : List ℕ) {v : ℕ} {rest : List ℕ} → Tame rest → origin bs ≡ is v rest → origin (bs ++ feed) ≡ is v (rest ++ feed)
unfolding digit_of
origin_more bs {v} at_end e =
    let d = origin_only v bs [] e in
    ap (λ (l : List ℕ). origin (l ++ feed)) d.1 ∙ ap origin (append_assoc (origin_text v) [] feed) ∙ origin_on_lem v 10 [] d.0 (omega arith)
origin_more bs {v} (at_byte {b} {bs = rest} h) e =
    let d = origin_only v bs (b ∷ rest) e in
    ap (λ (l : List ℕ). origin (l ++ feed)) d.1 ∙ ap origin (append_assoc (origin_text v) (b ∷ rest) feed) ∙ origin_on_lem v b (rest ++ feed) d.0 h

read_more : (kind : ℕ) (bs : List ℕ) {v : ℕ} {rest : List ℕ} → (kind ≡ 10 → ⊥) → Tame rest → read kind bs ≡ is v rest → read kind (bs ++ feed) ≡ is v (rest ++ feed)
read_more kind bs n t e = elim (reader kind) [
  | a_double r ↦ r (bs ++ feed) ∙ hex_more bs (sym (r bs) ∙ e)
  | a_number limit r ↦ r (bs ++ feed) ∙ decimal_more limit bs t (sym (r bs) ∙ e)
  | an_origin q r ↦ r (bs ++ feed) ∙ origin_more bs t (sym (r bs) ∙ e)
  | a_name m r ↦ r (bs ++ feed) ∙ name_more 1 (words_of kind) bs (words_clean kind n m) (sym (r bs) ∙ e)
]

-- ---- a line

-- the bytes that end a field are no digits
stop_tame : (left : ℕ) (rest : List ℕ) → Tame (stop_of left ∷ rest)
unfolding stop_of digit_of
stop_tame left rest = go (eqb left 0)
  where
    go : (b : Bool) → Tame (cond b 10 9 ∷ rest)
    go true = at_byte {b = 10} {bs = rest} (omega arith)
    go false = at_byte {b = 9} {bs = rest} (omega arith)

order_fed : {A : Type 0} → Fault.Order ≡ Fault.NoLineFeed → A
order_fed e = let z : ◌≡◌ {A = ℕ} 0 1 = cc in absurd (omega arith)

missing_fed : {A : Type 0} → Fault.FieldMissing ≡ Fault.NoLineFeed → A
missing_fed e = let z : ◌≡◌ {A = ℕ} 0 1 = cc in absurd (omega arith)

pick_fed : {A : Type 0} (b : Bool) {f g : Fault} → (f ≡ Fault.NoLineFeed → A) → (g ≡ Fault.NoLineFeed → A) → cond b f g ≡ Fault.NoLineFeed → A
pick_fed true x y e = x e
pick_fed false x y e = y e

-- it is said at the end of the text alone, where nothing is due but the line feed
told_fed : {A : Type 0} (base left : ℕ) (bs : List ℕ) → told base left bs ≡ Fault.NoLineFeed → (bs ≡ [] → left ≡ 0 → A) → A
unfolding told
told_fed base left [] e on = elim (ℕ_discrete left 0) [
  | yes q ↦ on refl q
  | no n ↦ missing_fed (rw (ne_eqb left 0 n) at e)
]
told_fed base left (b ∷ bs) e on =
    pick_fed (eqb b (letter "\r")) (λ e. let z : ◌≡◌ {A = ℕ} 0 1 = cc in absurd (omega arith))
    (pick_fed (ltb 0 base && is_from "a" "f" b) (λ e. let z : ◌≡◌ {A = ℕ} 0 1 = cc in absurd (omega arith))
    (pick_fed (ltb 0 left && (eqb b tab || eqb b lf)) missing_fed (λ e. let z : ◌≡◌ {A = ℕ} 0 1 = cc in absurd (omega arith))))
    e

-- so the last field is whole
last_fed : (kind : ℕ) (kinds bs : List ℕ) {v : ℕ} → (kind ≡ 10 → ⊥) → length kinds ≡ 0 → read kind bs ≡ is v [] → fault_in (kind ∷ kinds) (bs ++ feed) ≡ Fault.Order
unfolding fault_in stop_of
last_fed kind [] bs {v} n l q = reads_on kind [] (bs ++ feed) v [] (ap (ended lf) (read_more kind bs n at_end q) ∙ ended_here lf v [])
last_fed kind (k ∷ ks) bs n l q = absurd (omega (arith, l))

field_fed : (kind : ℕ) (kinds bs : List ℕ) → (kind ≡ 10 → ⊥) → (r : Read ℕ) → read kind bs ≡ r → field_fault kind (length kinds) bs r ≡ Fault.NoLineFeed
    → fault_in (kind ∷ kinds) (bs ++ feed) ≡ Fault.Order
unfolding field_fault
field_fed kind kinds bs n (is v rest) q e = told_fed 0 (length kinds) rest e λ z l. last_fed kind kinds bs n l (rw z at q)
field_fed kind kinds bs n bad q e = told_fed (base_of kind) (suc (length kinds)) (no_digit (base_of kind) bs) e λ z l. absurd (omega (arith, l))

pub line_fed : (form bs : List ℕ) → feedless form ≡ true → fault_in form bs ≡ Fault.NoLineFeed → fault_in form (bs ++ feed) ≡ Fault.Order
unfolding fault_in or_else
line_fed [] bs f e = order_fed e
line_fed (kind ∷ kinds) bs f e = go (ended (stop_of (length kinds)) (read kind bs)) refl λ rest e. line_fed kinds rest (no_feed kind kinds f).1 e
  where
    go : (r : Read ℕ) → ended (stop_of (length kinds)) (read kind bs) ≡ r → ((rest : List ℕ) → fault_in kinds rest ≡ Fault.NoLineFeed → fault_in kinds (rest ++ feed) ≡ Fault.Order)
        → fault_in (kind ∷ kinds) (bs ++ feed) ≡ Fault.Order
    go (is v rest) q later =
        let w = read_more kind bs (no_feed kind kinds f).0 (stop_tame (length kinds) rest) (ended_only (stop_of (length kinds)) (read kind bs) v rest q) in
        reads_on kind kinds (bs ++ feed) v (rest ++ feed) (ap (ended (stop_of (length kinds))) w ∙ ended_here (stop_of (length kinds)) v (rest ++ feed)) ∙ later rest (rw q at e)
    go bad q later = field_fed kind kinds bs (no_feed kind kinds f).0 (read kind bs) refl (rw q at e)

-- ---- a line feed after the text changes nothing of whether `@` stands in its line

pub at_fed : (bs : List ℕ) → has_at (bs ++ feed) ≡ has_at bs
unfolding has_at
at_fed [] = refl
at_fed (b ∷ bs) = rw (at_fed bs)
