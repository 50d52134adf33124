-- The lines of a sheet. One that the reader takes after some rows has no fault but perhaps its place among others, so that one that is said to have
-- another fault is taken nowhere; and one that is said to be out of order is taken as the first line of a sheet. Assumes nothing.
use mathlib.Core.Path.{◌≡◌, refl, sym, ◌∙◌}
use mathlib.Core.List.{List, [], ◌∷◌, ◌++◌}
use mathlib.Core.Bool.{Bool, true, false, cond, ◌&&◌, ◌||◌}
use Prim.Native.Nat.{ℕ, suc, ◌-◌}
use native.Mathlib.Omega.{arith}
use native.Mathlib.Decide.{ℕ_discrete}
use lib.ListN.{length, drop, length-append}
use lib.Dec.{ltb, eqb}
use borrow.Author.Tests.{eq-eqb, ne_eqb, eqb-true}
use Rattle.complex.specs.declared.Complex.{Complex}
use Rattle.complex.specs.Constants.{of_parts}
use Rattle.expression.specs.declared.refusal.Refusal.{Refusal}
use Rattle.expression.specs.Limits.{numbers, indices}
use Rattle.spelling.specs.Names.{operation_names}
use Rattle.text.specs.Letters.{bytes}
use Rattle.text.specs.Reading.{Read, is, bad, then, tab, lf, ended, digit_of, hex_from, hex, starts, name_from, decimal_field, hex_field, name_field}
use Rattle.text.specs.Writing.{byte_of, last_hex, in_hex}
use Rattle.text.specs.Lines.{Line, goes, none, above_last}
use Rattle.text.proofs.Running.{ended_bad}
use Rattle.text.proofs.RoundTrip.{ended_here}
use Rattle.text.proofs.Only.{never, ended_only, hex_only, name_only, starts_only}
use Rattle.sheet.specs.Rows as Rows
use Rattle.sheet.specs.Rows.{rows, line_number, power, complex_field, second_operand, row_fields, sheet_line, counted, formed, fields_after}
use Rattle.faults.specs.declared.Fault.{Fault}
use Rattle.faults.specs.Faulting.{words_of, read, sheet_form, stop_of, fault_in}
use Rattle.faults.proofs.Passing.{apart, Passes, done, field, Stops, stopped, then_only, same_rest, is_if, no_stop, goes_if, in_order, order_reads, stop_more}

hex_on : (kinds : List ℕ) (stop : ℕ) (bs : List ℕ) {v : ℕ} {mid rest : List ℕ} → stop_of (length kinds) ≡ stop → hex_field stop bs ≡ is v mid → Passes kinds mid rest → Passes (72 ∷ kinds) bs rest
unfolding read
hex_on kinds stop bs {v} {mid} s e p = let f : ended (stop_of (length kinds)) (hex bs) ≡ is v mid = rw s e in field f p

complex_on : (kinds : List ℕ) (stop : ℕ) (bs : List ℕ) {z : Complex} {mid rest : List ℕ} → stop_of (length kinds) ≡ stop → complex_field stop bs ≡ is z mid → Passes kinds mid rest
    → Passes (72 ∷ 72 ∷ kinds) bs rest
unfolding complex_field
complex_on kinds stop bs s e passes =
    then_only (hex_field tab bs) _ e λ re im p e.
    then_only (hex_field stop im) _ e λ v last q e.
    hex_on (72 ∷ kinds) tab bs (stop_more (length kinds)) p (hex_on kinds stop im s q (rw (same_rest e) passes))

variable_row : (bs : List ℕ) {v : Rows.Variable} {rest : List ℕ} → Rows.variable_fields bs ≡ is v rest → Passes (bytes "vNHH") (118 ∷ 9 ∷ bs) rest
unfolding Rows.variable_fields read words_of name_from starts ended stop_of
variable_row bs e =
    then_only (decimal_field tab numbers bs) _ e λ number mid p e.
    then_only (complex_field lf mid) _ e λ value last q e.
    field refl (field p (complex_on [] lf mid refl q (done (same_rest e))))

cell_row : (bs : List ℕ) {c : Rows.Cell} {rest : List ℕ} → Rows.cell_fields bs ≡ is c rest → Passes (bytes "mNIH") (109 ∷ 9 ∷ bs) rest
unfolding Rows.cell_fields read words_of name_from starts ended stop_of
cell_row bs e =
    then_only (decimal_field tab numbers bs) _ e λ region mid p e.
    then_only (decimal_field tab indices mid) _ e λ index real q e.
    then_only (hex_field lf real) _ e λ v last r e.
    field refl (field p (field q (field r (done (same_rest e)))))

-- sixteen zeros are the double 0, and its only spelling
zero_on : (kinds bs : List ℕ) {v : ℕ} {mid rest : List ℕ} → v ≡ 0 → hex_field tab bs ≡ is v mid → stop_of (length kinds) ≡ tab → Passes kinds mid rest → Passes (90 ∷ kinds) bs rest
unfolding read words_of name_from starts in_hex last_hex byte_of
zero_on kinds bs {v} {mid} z e s p =
    let h : bs ≡ in_hex 0 ++ (9 ∷ mid) = (hex_only 0 bs (9 ∷ mid) (rw z at (ended_only tab (hex bs) v mid e))).1 in
    let f : ended {A = ℕ} (stop_of (length kinds)) (is 1 (9 ∷ mid)) ≡ is 1 mid = rw s (ended_here tab 1 mid) in
    rw h (field f p)

-- a test that holds for the name pow alone, unless both are 0
zeros : (b c d : Bool) {A : Type 0} (r : Read A) {x : A} {rest : List ℕ} → b ≡ false → cond (b || (c && d)) r bad ≡ is x rest → (c ≡ true) × (d ≡ true)
zeros true c d r z e = let y : ◌≡◌ {A = ℕ} 0 1 = cc in absurd (omega arith)
zeros false true true r z e = (refl, refl)
zeros false true false r z e = never e
zeros false false d r z e = never e

module _ (name : ℕ) (kinds bs : List ℕ) {y : Complex} {mid rest : List ℕ} (e : second_operand name bs ≡ is y mid) (s : stop_of (length kinds) ≡ tab) (passes : Passes kinds mid rest) where
  second_any : Passes (72 ∷ 72 ∷ kinds) bs rest
  unfolding second_operand
  second_any =
      then_only (hex_field tab bs) _ e λ re im p e.
      then_only (hex_field tab im) _ e λ v last q e.
      let f = is_if (eqb name power || (eqb re 0 && eqb v 0)) (is (of_parts re v) last) e in
      hex_on (72 ∷ kinds) tab bs (stop_more (length kinds)) p (hex_on kinds tab im s q (rw (same_rest f) passes))

  second_zeros : (name ≡ 5 → ⊥) → Passes (90 ∷ 90 ∷ kinds) bs rest
  unfolding second_operand
  second_zeros n =
      then_only (hex_field tab bs) _ e λ re im p e.
      then_only (hex_field tab im) _ e λ v last q e.
      let f = is_if (eqb name power || (eqb re 0 && eqb v 0)) (is (of_parts re v) last) e in
      let w = zeros (eqb name power) (eqb re 0) (eqb v 0) _ (ne_eqb name 5 n) e in
      zero_on (90 ∷ kinds) bs (eqb-true re 0 w.0) p (stop_more (length kinds)) (zero_on kinds im (eqb-true v 0 w.1) q s (rw (same_rest f) passes))

-- a name with another number than pow's is not pow
named_pow : (name : ℕ) (bs : List ℕ) {rest : List ℕ} → name ≡ 5 → name_field tab operation_names bs ≡ is name rest → starts (bytes "pow") bs ≡ true
unfolding starts
named_pow name bs {rest} q e =
    let n = name_only 1 5 operation_names bs (9 ∷ rest) (rw q at (ended_only tab (name_from 1 operation_names bs) name rest e)) in
    let w : bs ≡ bytes "pow" ++ (9 ∷ rest) = n.word in
    rw w

module _ (bs : List ℕ) {r : Rows.Row} {rest : List ℕ} (e : row_fields bs ≡ is r rest) where
  pow_row : Passes (bytes "tOHHHHHH") (116 ∷ 9 ∷ bs) rest
  unfolding row_fields read words_of name_from starts ended stop_of
  pow_row =
      then_only (name_field tab operation_names bs) _ e λ name first p e.
      then_only (complex_field tab first) _ e λ x second q e.
      then_only (second_operand name second) _ e λ y third r e.
      then_only (complex_field lf third) _ e λ value last s e.
      field refl (field p (complex_on (bytes "HHHH") tab first refl q (second_any name (bytes "HH") second r refl (complex_on [] lf third refl s (done (same_rest e))))))

  other_row : starts (bytes "pow") bs ≡ false → Passes (bytes "tOHHZZHH") (116 ∷ 9 ∷ bs) rest
  unfolding row_fields read words_of name_from starts ended stop_of
  other_row other =
      then_only (name_field tab operation_names bs) _ e λ name first p e.
      then_only (complex_field tab first) _ e λ x second q e.
      then_only (second_operand name second) _ e λ y third r e.
      then_only (complex_field lf third) _ e λ value last s e.
      let n : name ≡ 5 → ⊥ = λ z. apart (sym other ∙ named_pow name bs z p) in
      field refl (field p (complex_on (bytes "ZZHH") tab first refl q (second_zeros name (bytes "HH") second r refl (complex_on [] lf third refl s (done (same_rest e))) n)))

  row_by : (b : Bool) → starts (bytes "pow") bs ≡ b → Passes (cond b (bytes "tOHHHHHH") (bytes "tOHHZZHH")) (116 ∷ 9 ∷ bs) rest
  row_by true q = pow_row
  row_by false q = other_row q

-- ---- what a line that goes on leaves: its fields read, and it is counted

pub record Took (known after : Rows.Rows) (form bs rest : List ℕ) : Type 0 where
  pub passes : Passes form bs rest
  pub line : line_number after ≡ suc (line_number known)

module _ {A : Type 0} (before : Rows.Rows) (inOrder : A → Bool) (with : A → Rows.Rows) (counts : (x : A) → line_number (with x) ≡ suc (line_number before)) {after : Rows.Rows} {rest : List ℕ} where
  row_formed : (form bs : List ℕ) (r : Read A) → formed before inOrder with r ≡ goes after rest → ((x : A) (mid : List ℕ) → r ≡ is x mid → Passes form bs mid) → Took before after form bs rest
  unfolding formed
  row_formed form bs (is x mid) e on =
      let f = goes_if (inOrder x) (goes (with x) mid) (Refusal.BadSheet (line_number before)) e in
      let y : mid ≡ rest = cc in
      let z : with x ≡ after = cc in
      record { passes = rw y at (on x mid refl); line = rw z at (counts x) }
  row_formed form bs bad e on = no_stop e

  -- a line whose count is right and whose fields read, after the letter and a tab
  line_took : {B : Type 0} (form : List ℕ → List ℕ) (most : ℕ) (those : List B) (first : ℕ) (bs : List ℕ) (fields : List ℕ → Read A)
      → counted before most those (formed before inOrder with (fields_after first bs fields)) ≡ goes after rest
      → ((x : A) (mid last : List ℕ) → fields mid ≡ is x last → Passes (form (first ∷ 9 ∷ mid)) (first ∷ 9 ∷ mid) last) → Took before after (form (first ∷ bs)) (first ∷ bs) rest
  unfolding counted
  line_took form most those first bs fields e on =
      let f = goes_if (ltb (length those) most) (formed before inOrder with (fields_after first bs fields)) (Refusal.LongSheet (line_number before)) e in
      row_formed (form (first ∷ bs)) (first ∷ bs) (fields_after first bs fields) f λ x last p.
      then_only (ended tab (is first bs)) (λ _ bs. fields bs) p λ o mid l q.
      let r = ended_only tab (is first bs) o mid l in
      let z : bs ≡ 9 ∷ mid = cc in
      rw z (on x mid last q)

one_more : {A : Type 0} (xs : List A) (x : A) → length (xs ++ (x ∷ [])) ≡ suc (length xs)
one_more xs x = omega (arith, length-append xs (x ∷ []))

module _ (before : Rows.Rows) (bs : List ℕ) {after : Rows.Rows} {rest : List ℕ} where
  variable_took : Rows.variable_line before 118 bs ≡ goes after rest → Took before after (bytes "vNHH") (118 ∷ bs) rest
  unfolding Rows.variable_line
  variable_took e =
      line_took before _ (λ v. rows (before.variables ++ (v ∷ [])) before.cells before.functions) (λ v. omega (arith, one_more before.variables v)) (λ _. bytes "vNHH") 256
      before.variables 118 bs Rows.variable_fields e λ x mid last p.
      variable_row mid p

  cell_took : Rows.cell_line before 109 bs ≡ goes after rest → Took before after (bytes "mNIH") (109 ∷ bs) rest
  unfolding Rows.cell_line
  cell_took e =
      line_took before _ (λ c. rows before.variables (before.cells ++ (c ∷ [])) before.functions) (λ c. omega (arith, one_more before.cells c)) (λ _. bytes "mNIH") 1024
      before.cells 109 bs Rows.cell_fields e λ x mid last p.
      cell_row mid p

  row_took : Rows.function_line before 116 bs ≡ goes after rest
      → Took before after (cond (starts (bytes "t\tpow") (116 ∷ bs)) (bytes "tOHHHHHH") (bytes "tOHHZZHH")) (116 ∷ bs) rest
  unfolding Rows.function_line starts
  row_took e =
      line_took before _ (λ r. rows before.variables before.cells (before.functions ++ (r ∷ []))) (λ r. omega (arith, one_more before.functions r))
      (λ line. cond (starts (bytes "t\tpow") line) (bytes "tOHHHHHH") (bytes "tOHHZZHH")) 256 before.functions 116 bs row_fields e λ x mid last p.
      row_by mid p (starts (bytes "pow") mid) refl

pub sheet_took : (before : Rows.Rows) (first : ℕ) (bs : List ℕ) {after : Rows.Rows} {rest : List ℕ} → sheet_line before first bs ≡ goes after rest
    → Took before after (sheet_form first (first ∷ bs)) (first ∷ bs) rest
unfolding sheet_line sheet_form
sheet_took before first bs e = elim (ℕ_discrete first 118) [
  | yes q ↦ rw q (variable_took before bs (rw (eq-eqb first 118 q, q) at e))
  | no v ↦ elim (ℕ_discrete first 109) [
    | yes q ↦ rw q (cell_took before bs (rw (ne_eqb first 118 v, eq-eqb first 109 q, q) at e))
    | no m ↦ elim (ℕ_discrete first 116) [
      | yes q ↦ rw q (row_took before bs (rw (ne_eqb first 118 v, ne_eqb first 109 m, eq-eqb first 116 q, q) at e))
      | no n ↦ no_stop (rw (ne_eqb first 118 v, ne_eqb first 109 m, ne_eqb first 116 n) at e)
    ]
  ]
]

-- so its place is its only fault
pub sheet_line_lem : (before : Rows.Rows) (first : ℕ) (bs : List ℕ) {after : Rows.Rows} {rest : List ℕ} → sheet_line before first bs ≡ goes after rest
    → fault_in (sheet_form first (first ∷ bs)) (first ∷ bs) ≡ Fault.Order
sheet_line_lem before first bs e = in_order (sheet_took before first bs e).passes

-- and where it has another, it is refused
pub sheet_refused : (before : Rows.Rows) (first : ℕ) (bs : List ℕ) → (fault_in (sheet_form first (first ∷ bs)) (first ∷ bs) ≡ Fault.Order → ⊥)
    → Stops (sheet_line before first bs)
sheet_refused before first bs n = stopped (sheet_line before first bs) λ after rest e. n (sheet_line_lem before first bs e)

-- ---- the converse, as a sheet's first line

-- the letter of a line, and a tab
letter_reads : {P : Type 0} (first : ℕ) (bs : List ℕ) {v : ℕ} {mid : List ℕ} → ended tab (is 1 bs) ≡ is v mid → (bs ≡ 9 ∷ mid → P) → P
letter_reads first bs {v} {mid} p on =
    let r = ended_only tab (is 1 bs) v mid p in
    let z : bs ≡ 9 ∷ mid = cc in
    on z

pub record Goes {S R : Type 0} (l : Line S R) : Type 0 where
  pub after : S
  pub rest : List ℕ
  pub goes_on : l ≡ goes after rest

on : {S R : Type 0} {s : S} {rest : List ℕ} → Goes {S = S} {R = R} (goes s rest)
on {s = s} {rest = rest} = record { after = s; rest = rest; goes_on = refl }

abbrev empty : Rows.Rows
empty = rows [] [] []

variable_goes : (bs : List ℕ) → fault_in (bytes "vNHH") (118 ∷ bs) ≡ Fault.Order → Goes (sheet_line empty 118 bs)
unfolding sheet_line Rows.variable_line counted formed Rows.variable_fields complex_field then read words_of name_from starts stop_of none above_last
variable_goes bs e =
    order_reads 118 (bytes "NHH") (118 ∷ bs) e λ o mid l e.
    order_reads 78 (bytes "HH") mid e λ number value p e.
    order_reads 72 (bytes "H") value e λ re next q e.
    order_reads 72 [] next e λ im last r e.
    letter_reads 118 bs l λ z.
    rw (z, ended_here {A = ℕ} tab 118 mid, p, q, r) on

cell_goes : (bs : List ℕ) → fault_in (bytes "mNIH") (109 ∷ bs) ≡ Fault.Order → Goes (sheet_line empty 109 bs)
unfolding sheet_line Rows.cell_line counted formed Rows.cell_fields then read words_of name_from starts stop_of none above_last
cell_goes bs e =
    order_reads 109 (bytes "NIH") (109 ∷ bs) e λ o mid l e.
    order_reads 78 (bytes "IH") mid e λ region next p e.
    order_reads 73 (bytes "H") next e λ index value q e.
    order_reads 72 [] value e λ real last r e.
    letter_reads 109 bs l λ z.
    rw (z, ended_here {A = ℕ} tab 109 mid, p, q, r) on

zero_reads : (stop : ℕ) (bs : List ℕ) {v : ℕ} {rest : List ℕ} → name_field stop (bytes "0000000000000000" ∷ []) bs ≡ is v rest → hex_field stop bs ≡ is 0 rest
unfolding hex hex_from digit_of
zero_reads stop bs {v} {rest} e =
    let n = name_only 1 v (bytes "0000000000000000" ∷ []) bs (stop ∷ rest) (ended_only stop _ v rest e) in
    let i : Prim.Native.Nat.◌-◌ v 1 ≡ 0 = omega (arith, n.among) in
    let w : bs ≡ bytes "0000000000000000" ++ (stop ∷ rest) = rw i at n.word in
    rw w (ended_here stop 0 rest)

pow_name : (bs : List ℕ) {name : ℕ} {rest : List ℕ} → starts (bytes "pow") bs ≡ true → name_field tab operation_names bs ≡ is name rest → name ≡ 5
unfolding name_from starts
pow_name bs {name} {rest} s e =
    let w : bs ≡ bytes "pow" ++ drop 3 bs = starts_only (bytes "pow") bs s in
    let f = rw w at (ended_only tab _ name rest e) in
    cc

or_true_lem : (b : Bool) → (b || true) ≡ true
or_true_lem true = refl
or_true_lem false = refl

module _ (bs : List ℕ) where
  pow_goes : starts (bytes "pow") bs ≡ true → fault_in (bytes "tOHHHHHH") (116 ∷ 9 ∷ bs) ≡ Fault.Order → Goes (sheet_line empty 116 (9 ∷ bs))
  unfolding sheet_line Rows.function_line counted formed row_fields complex_field second_operand then read words_of name_from starts stop_of
  pow_goes s e =
      order_reads 116 (bytes "OHHHHHH") (116 ∷ 9 ∷ bs) e λ o mid l e.
      letter_reads 116 (9 ∷ bs) l λ z.
      let y : mid ≡ bs = cc in
      order_reads 79 (bytes "HHHHHH") bs (rw y at e) λ name first n e.
      order_reads 72 (bytes "HHHHH") first e λ a b p e.
      order_reads 72 (bytes "HHHH") b e λ c second q e.
      order_reads 72 (bytes "HHH") second e λ d f r e.
      order_reads 72 (bytes "HH") f e λ g third t e.
      order_reads 72 (bytes "H") third e λ h i u e.
      order_reads 72 [] i e λ j last v e.
      rw (ended_here {A = ℕ} tab 116 bs, n, p, q, r, t, eq-eqb name 5 (pow_name bs s n), u, v) on

  other_goes : fault_in (bytes "tOHHZZHH") (116 ∷ 9 ∷ bs) ≡ Fault.Order → Goes (sheet_line empty 116 (9 ∷ bs))
  unfolding sheet_line Rows.function_line counted formed row_fields complex_field second_operand then read words_of name_from starts stop_of
  other_goes e =
      order_reads 116 (bytes "OHHZZHH") (116 ∷ 9 ∷ bs) e λ o mid l e.
      letter_reads 116 (9 ∷ bs) l λ z.
      let y : mid ≡ bs = cc in
      order_reads 79 (bytes "HHZZHH") bs (rw y at e) λ name first n e.
      order_reads 72 (bytes "HZZHH") first e λ a b p e.
      order_reads 72 (bytes "ZZHH") b e λ c second q e.
      order_reads 90 (bytes "ZHH") second e λ d f r e.
      order_reads 90 (bytes "HH") f e λ g third t e.
      order_reads 72 (bytes "H") third e λ h i u e.
      order_reads 72 [] i e λ j last v e.
      rw (ended_here {A = ℕ} tab 116 bs, n, p, q, zero_reads tab second r, zero_reads tab f t, or_true_lem (eqb name 5), u, v) on

  row_goes : (b : Bool) → starts (bytes "pow") bs ≡ b → fault_in (cond b (bytes "tOHHHHHH") (bytes "tOHHZZHH")) (116 ∷ 9 ∷ bs) ≡ Fault.Order → Goes (sheet_line empty 116 (9 ∷ bs))
  row_goes true q e = pow_goes q e
  row_goes false q e = other_goes e

-- the letter that is due is the line's first byte
first_is : {P : Type 0} (due first : ℕ) (bs : List ℕ) {v : ℕ} {mid : List ℕ} → name_field tab ((due ∷ []) ∷ []) (first ∷ bs) ≡ is v mid → (first ≡ due → bs ≡ 9 ∷ mid → P) → P
unfolding name_from starts
first_is due first bs {v} {mid} e on = elim (ℕ_discrete first due) [
  | yes q ↦
      let r = ended_only tab (is 1 bs) v mid (rw (eq-eqb first due q) at e) in
      let z : bs ≡ 9 ∷ mid = cc in
      on q z
  | no n ↦ never (sym (ended_bad tab) ∙ (rw (ne_eqb first due n) at e))
]

-- either form of a row begins with its letter and a tab
row_tab : {P : Type 0} (b : Bool) (first : ℕ) (bs : List ℕ) → fault_in (cond b (bytes "tOHHHHHH") (bytes "tOHHZZHH")) (first ∷ bs) ≡ Fault.Order
    → ((mid : List ℕ) → first ≡ 116 → bs ≡ 9 ∷ mid → P) → P
unfolding read words_of name_from starts stop_of
row_tab true first bs e on =
    order_reads 116 (bytes "OHHHHHH") (first ∷ bs) e λ o mid l e.
    first_is 116 first bs l λ q z.
    on mid q z
row_tab false first bs e on =
    order_reads 116 (bytes "OHHZZHH") (first ∷ bs) e λ o mid l e.
    first_is 116 first bs l λ q z.
    on mid q z

pub sheet_goes : (first : ℕ) (bs : List ℕ) → fault_in (sheet_form first (first ∷ bs)) (first ∷ bs) ≡ Fault.Order → Goes (sheet_line empty first bs)
unfolding sheet_form starts
sheet_goes first bs e = elim (ℕ_discrete first 118) [
  | yes q ↦ rw q (variable_goes bs (rw q at e))
  | no v ↦ elim (ℕ_discrete first 109) [
    | yes q ↦ rw q (cell_goes bs (rw q at e))
    | no m ↦
        row_tab (starts (bytes "t\tpow") (first ∷ bs)) first bs (rw (ne_eqb first 118 v, ne_eqb first 109 m) at e) λ mid q z.
        rw (q, z) (row_goes mid (starts (bytes "pow") mid) refl (rw (q, z) at e))
  ]
]
