-- A line whose fields all read, one after another: that is what the fault Order says, and such a line ends at its first LF. And what readers that take
-- one thing after another have taken. Assumes nothing.
use mathlib.Core.Path.{◌≡◌, refl, sym, ap, ◌∙◌}
use mathlib.Core.List.{List, [], ◌∷◌}
use mathlib.Core.Bool.{Bool, true, false, cond, ◌&&◌, ◌||◌}
use Prim.Native.Nat.{ℕ, suc, ◌≤◌, ◌<◌}
use native.Mathlib.Omega.{arith}
use native.Mathlib.Decide.{dec_lt, ℕ_discrete}
use lib.ListN.{length, drop}
use lib.Dec.{ltb, eqb}
use borrow.Author.Tests.{lt-ltb, le-ltb, eq-eqb, ne_eqb}
use Rattle.expression.specs.Limits.{numbers, indices}
use Rattle.text.specs.Letters.{letter}
use Rattle.text.specs.Reading.{Read, is, bad, then, tab, lf, ended, is_from, run, value, spelt, decimal, hex, name_from, decimal_field}
use Rattle.text.specs.Lines.{Line, goes, stops}
use Rattle.text.proofs.Running.{too_large}
use Rattle.text.proofs.RoundTrip.{ended_here}
use Rattle.text.proofs.Only.{never, ended_only}
use Rattle.origins.specs.Fields.{origin}
use Rattle.faults.specs.declared.Fault.{Fault}
use Rattle.faults.specs.Faulting.{words_of, read, told, no_digit, base_of, field_fault, stop_of, or_else, fault_in}
use Rattle.faults.proofs.Telling.{reads_on}

-- ---- what was read

pub then_only : {A B P : Type 0} (r : Read A) (next : A → List ℕ → Read B) {y : B} {rest : List ℕ} → then r next ≡ is y rest
    → ((x : A) (mid : List ℕ) → r ≡ is x mid → next x mid ≡ is y rest → P) → P
unfolding then
then_only (is x mid) next e k = k x mid refl e
then_only bad next e k = never e

pub same_rest : {A : Type 0} {x y : A} {bs cs : List ℕ} → is x bs ≡ is y cs → bs ≡ cs
same_rest e = cc

pub is_if : {A : Type 0} (b : Bool) (r : Read A) {x : A} {rest : List ℕ} → cond b r bad ≡ is x rest → r ≡ is x rest
is_if true r e = e
is_if false r e = never e

pub apart : {A : Type 0} → false ≡ true → A
apart e = let z : ◌≡◌ {A = ℕ} 0 1 = cc in absurd (omega arith)

pub no_stop : {A S R : Type 0} {why : R} {s : S} {rest : List ℕ} → stops why ≡ goes s rest → A
no_stop e = let z : ◌≡◌ {A = ℕ} 0 1 = cc in absurd (omega arith)

pub goes_if : {S R : Type 0} (b : Bool) (l : Line S R) (why : R) {s : S} {rest : List ℕ} → cond b l (stops why) ≡ goes s rest → l ≡ goes s rest
goes_if true l why e = e
goes_if false l why e = no_stop e

-- what is not read, and what does not go on
pub unread : {A : Type 0} (r : Read A) → ((x : A) (rest : List ℕ) → r ≡ is x rest → ⊥) → r ≡ bad
unread (is x rest) n = absurd (n x rest refl)
unread bad n = refl

pub record Stops {S R : Type 0} (l : Line S R) : Type 0 where
  pub why : R
  pub stop : l ≡ stops why

pub stopped : {S R : Type 0} (l : Line S R) → ((s : S) (rest : List ℕ) → l ≡ goes s rest → ⊥) → Stops l
stopped (goes s rest) n = absurd (n s rest refl)
stopped (stops why) n = record { why = why; stop = refl }

-- a count that was tested
pub below : {S R : Type 0} (n most : ℕ) (l : Line S R) (why : R) {s : S} {rest : List ℕ} → cond (ltb n most) l (stops why) ≡ goes s rest → n < most
below n most l why e = elim (dec_lt n most) [
  | yes lt ↦ lt
  | no ge ↦ no_stop (rw (le-ltb n most (omega arith)) at e)
]

pub record Taken {A : Type 0} (r : Read A) : Type 0 where
  pub thing : A
  pub rest : List ℕ
  pub read_as : r ≡ is thing rest

pub taken : {A : Type 0} {x : A} {rest : List ℕ} → Taken (is x rest)
taken {x = x} {rest = rest} = record { thing = x; rest = rest; read_as = refl }

-- ---- a number below a limit is one below a greater limit

spelt_wider : (limit limit' : ℕ) (ds bs : List ℕ) {v : ℕ} {rest : List ℕ} → limit ≤ limit' → spelt limit ds bs ≡ is v rest → spelt limit' ds bs ≡ is v rest
unfolding spelt
spelt_wider limit limit' [] bs h e = never e
spelt_wider limit limit' (d ∷ ds) bs h e = elim (dec_lt (value 0 (d ∷ ds)) limit) [
  | no ge ↦ never (sym (too_large limit (d ∷ ds) bs (omega arith)) ∙ e)
  | yes lt ↦ rw (lt-ltb (value 0 (d ∷ ds)) limit' (omega arith)) (rw (lt-ltb (value 0 (d ∷ ds)) limit lt) at e)
]

pub wider_number : (limit limit' : ℕ) (bs : List ℕ) {v : ℕ} {rest : List ℕ} → limit ≤ limit' → decimal limit bs ≡ is v rest → decimal limit' bs ≡ is v rest
unfolding decimal
wider_number limit limit' bs h e = spelt_wider limit limit' (run bs) (drop (length (run bs)) bs) h e

pub wider : (stop limit limit' : ℕ) (bs : List ℕ) {v : ℕ} {rest : List ℕ} → limit ≤ limit' → decimal_field stop limit bs ≡ is v rest → decimal_field stop limit' bs ≡ is v rest
wider stop limit limit' bs {v} {rest} h e = ap (ended stop) (wider_number limit limit' bs h (ended_only stop (decimal limit bs) v rest e)) ∙ ended_here stop v rest

-- ---- how a field is read, by its letter

pub data Reader (kind : ℕ) : Type 0 where
  a_double : ((bs : List ℕ) → read kind bs ≡ hex bs) → Reader kind
  a_number : (limit : ℕ) → ((bs : List ℕ) → read kind bs ≡ decimal limit bs) → Reader kind
  an_origin : kind ≡ 64 → ((bs : List ℕ) → read kind bs ≡ origin bs) → Reader kind
  a_name : (kind ≡ 64 → ⊥) → ((bs : List ℕ) → read kind bs ≡ name_from 1 (words_of kind) bs) → Reader kind

pub reader : (kind : ℕ) → Reader kind
unfolding read
reader kind = elim (ℕ_discrete kind 72) [
  | yes q ↦ a_double (λ bs. rw (eq-eqb kind 72 q))
  | no h ↦ elim (ℕ_discrete kind 78) [
    | yes q ↦ a_number numbers (λ bs. rw (ne_eqb kind 72 h, eq-eqb kind 78 q))
    | no m ↦ elim (ℕ_discrete kind 73) [
      | yes q ↦ a_number indices (λ bs. rw (ne_eqb kind 72 h, ne_eqb kind 78 m, eq-eqb kind 73 q))
      | no i ↦ elim (ℕ_discrete kind 64) [
        | yes q ↦ an_origin q (λ bs. rw (ne_eqb kind 72 h, ne_eqb kind 78 m, ne_eqb kind 73 i, eq-eqb kind 64 q))
        | no a ↦ a_name a (λ bs. rw (ne_eqb kind 72 h, ne_eqb kind 78 m, ne_eqb kind 73 i, ne_eqb kind 64 a))
      ]
    ]
  ]
]

-- ---- a line whose fields all read, and what follows on it

pub data Passes : (form bs rest : List ℕ) → Type 0 where
  done : {bs rest : List ℕ} → bs ≡ rest → Passes [] bs rest
  field : {kind : ℕ} {kinds bs : List ℕ} {v : ℕ} {mid rest : List ℕ} → ended (stop_of (length kinds)) (read kind bs) ≡ is v mid → Passes kinds mid rest → Passes (kind ∷ kinds) bs rest

pub in_order : {form bs rest : List ℕ} → Passes form bs rest → fault_in form bs ≡ Fault.Order
unfolding fault_in
in_order (done e) = refl
in_order (field {kind} {kinds} {bs} {v} {mid} e p) = reads_on kind kinds bs v mid e ∙ in_order p

pub stop_more : (n : ℕ) → stop_of (suc n) ≡ tab
unfolding stop_of
stop_more n = rw (ne_eqb (suc n) 0 (λ q. omega arith))

-- ---- a field that does not read never says Order

data Other : Fault → Type 0 where
  wrong_byte : Other Fault.WrongByte
  field_missing : Other Fault.FieldMissing
  hex_case : Other Fault.HexCase
  carriage_return : Other Fault.CarriageReturn
  no_line_feed : Other Fault.NoLineFeed

other_if : (b : Bool) {f g : Fault} → Other f → Other g → Other (cond b f g)
other_if true o p = o
other_if false o p = p

told_other : (base left : ℕ) (bs : List ℕ) → Other (told base left bs)
unfolding told
told_other base left [] = other_if (eqb left 0) no_line_feed field_missing
told_other base left (b ∷ bs) =
    other_if (eqb b (letter "\r")) carriage_return
    (other_if (ltb 0 base && is_from "a" "f" b) hex_case
    (other_if (ltb 0 left && (eqb b tab || eqb b lf)) field_missing
    wrong_byte))

field_other : (kind left : ℕ) (bs : List ℕ) (r : Read ℕ) → Other (field_fault kind left bs r)
unfolding field_fault
field_other kind left bs (is v rest) = told_other 0 left rest
field_other kind left bs bad = told_other (base_of kind) (suc left) (no_digit (base_of kind) bs)

no_order : {A : Type 0} {f : Fault} → Other f → f ≡ Fault.Order → A
no_order wrong_byte e = let z : ◌≡◌ {A = ℕ} 0 1 = cc in absurd (omega arith)
no_order field_missing e = let z : ◌≡◌ {A = ℕ} 0 1 = cc in absurd (omega arith)
no_order hex_case e = let z : ◌≡◌ {A = ℕ} 0 1 = cc in absurd (omega arith)
no_order carriage_return e = let z : ◌≡◌ {A = ℕ} 0 1 = cc in absurd (omega arith)
no_order no_line_feed e = let z : ◌≡◌ {A = ℕ} 0 1 = cc in absurd (omega arith)

-- so where it is Order the field reads
pub order_reads : {P : Type 0} (kind : ℕ) (kinds bs : List ℕ) → fault_in (kind ∷ kinds) bs ≡ Fault.Order
    → ((v : ℕ) (rest : List ℕ) → ended (stop_of (length kinds)) (read kind bs) ≡ is v rest → fault_in kinds rest ≡ Fault.Order → P) → P
unfolding fault_in or_else
order_reads {P} kind kinds bs e on = go (ended (stop_of (length kinds)) (read kind bs)) refl
  where
    go : (r : Read ℕ) → ended (stop_of (length kinds)) (read kind bs) ≡ r → P
    go (is v rest) q = on v rest q (rw q at e)
    go bad q = no_order (field_other kind (length kinds) bs (read kind bs)) (rw q at e)
