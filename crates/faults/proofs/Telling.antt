-- The laws that the functions of this crate cite: the bytes that are passed over, a field that reads and one that does not, over plain lists and
-- numbers. Assumes nothing.
use Rattle.std.specs.Prelude.{Option, Some, None}
use Rattle.std.specs.Borrow.{Bor}
use Rattle.std.specs.List.{IsFirstAndRest}
use mathlib.Core.Path.{◌≡◌, refl, sym, ap, ◌∙◌}
use mathlib.Core.List.{List, [], ◌∷◌, ◌++◌}
use Prim.Native.Nat.{ℕ, zero, suc, ◌+◌, ◌-◌, ◌≤◌, ◌<◌}
use native.Mathlib.Numerals.{add-one}
use native.Mathlib.Omega.{arith}
use mathlib.Core.Bool.{Bool, true, false, cond}
use lib.Dec.{eqb}
use lib.ListN.{length, get_or, drop, drop_of_length-le, length-drop, length-append}
use borrow.Author.Tests.{lt-ltb, le-ltb, eq-eqb, ne_eqb}
use Rattle.text.specs.Reading.{is, bad, ended, digit_of}
use Rattle.text.specs.Seen.{seen}
use Rattle.text.proofs.Running.{here}
use Rattle.faults.specs.declared.Fault.{Fault}
use Rattle.faults.specs.Faulting as Spec
use Rattle.faults.specs.Faulting.{read, base_of, no_digit, field_fault, stop_of, or_else, form_with, has_at, fault_in, line_fault, after_line, from_line}

-- ---- digits that are passed over

module _ {s rest : List ℕ} {b : ℕ} (f : IsFirstAndRest s b rest) (base : ℕ) where
  pub digit_passed : digit_of b < base → no_digit base s ≡ no_digit base rest
  unfolding no_digit
  digit_passed h = rw (f.0, lt-ltb _ _ h)

  pub digit_none : base ≤ digit_of b → s ≡ no_digit base s
  unfolding no_digit
  digit_none h = rw (f.0, le-ltb _ _ h)

pub no_byte : (s : List ℕ) (base : ℕ) → length s ≡ 0 → s ≡ no_digit base s
unfolding no_digit
no_byte [] base h = refl
no_byte (b ∷ s) base h = absurd (omega arith)

-- ---- lines that are passed over

pub nothing_left : (line : ℕ) → from_line line [] ≡ []
unfolding from_line after_line
nothing_left zero = refl
nothing_left (suc line) = nothing_left line

pass_other : (line b : ℕ) (bs : List ℕ) → (b ≡ 10 → ⊥) → from_line (suc line) (b ∷ bs) ≡ from_line (suc line) bs
unfolding from_line after_line
pass_other line b bs n = rw (ne_eqb b 10 n)

pass_feed : (line b : ℕ) (bs : List ℕ) → b ≡ 10 → from_line (suc line) (b ∷ bs) ≡ from_line line bs
unfolding from_line after_line
pass_feed line b bs e = rw (eq-eqb b 10 e)

pub record At (s : List ℕ) (line left i : ℕ) : Type 0 where
  pub inside : i ≤ length s
  pub rest : from_line left (drop i s) ≡ from_line line s

module _ {s : List ℕ} {line left i : ℕ} (g : At s line left i) where
  pub line_ended : length s ≤ i → drop i s ≡ from_line line s
  line_ended h = let z : drop i s ≡ [] = drop_of_length-le s {i = i} h in z ∙ sym (nothing_left left) ∙ (rw z at g.rest)

  pub line_other : 0 < left → i < length s → (get_or s i 0 ≡ 10 → ⊥) → At s line left (i + 1)
  line_other p h n =
      let q : left ≡ suc (left - 1) = omega arith in
      record { inside = omega arith; rest = rw q (rw (q, here s i h, pass_other (left - 1) (get_or s i 0) (drop (i + 1) s) n) at g.rest) }

  pub line_passed : 0 < left → i < length s → get_or s i 0 ≡ 10 → At s line (left - 1) (i + 1)
  line_passed p h n =
      let q : left ≡ suc (left - 1) = omega arith in
      record { inside = omega arith; rest = rw (q, here s i h, pass_feed (left - 1) (get_or s i 0) (drop (i + 1) s) n) at g.rest }

  pub line_found : left ≤ 0 → drop i s ≡ from_line line s
  unfolding from_line
  line_found h = let q : left ≡ 0 = omega arith in rw q at g.rest

-- ---- a field

-- a field that is not whole
pub field_stuck : (kind left : ℕ) {base : ℕ} (bs : List ℕ) {rest : List ℕ} → base ≡ base_of kind → rest ≡ no_digit base bs → read kind bs ≡ bad
    → Spec.told base (left + 1) rest ≡ field_fault kind left bs (read kind bs)
unfolding field_fault
field_stuck kind left bs b d e = rw (d, b, e, add-one)

pub reads_on : (kind : ℕ) (kinds bs : List ℕ) (v : ℕ) (rest : List ℕ) → ended (stop_of (length kinds)) (read kind bs) ≡ is v rest → fault_in (kind ∷ kinds) bs ≡ fault_in kinds rest
unfolding fault_in or_else
reads_on kind kinds bs v rest e = rw e

pub stops : (kind : ℕ) (kinds bs : List ℕ) → ended (stop_of (length kinds)) (read kind bs) ≡ bad → fault_in (kind ∷ kinds) bs ≡ field_fault kind (length kinds) bs (read kind bs)
unfolding fault_in or_else
stops kind kinds bs e = rw e

-- the fields of a form, with that of an origin
pub count_more : (form : List ℕ) {origin : Bool} → origin ≡ true → length form + 1 ≡ length (form_with origin form)
unfolding form_with
count_more form e = rw e (sym (length-append form (64 ∷ [])))

pub count_plain : (form : List ℕ) {origin : Bool} → origin ≡ false → length form ≡ length (form_with origin form)
unfolding form_with
count_plain form e = rw e

kind_more : (form : List ℕ) (k : ℕ) → k < length (form ++ (64 ∷ [])) → get_or form k 64 ≡ get_or (form ++ (64 ∷ [])) k 0
kind_more [] zero h = refl
kind_more [] (suc k) h = absurd (omega (arith, h))
kind_more (b ∷ form) zero h = refl
kind_more (b ∷ form) (suc k) h = kind_more form k (omega (arith, h))

pub kind_plain : (form : List ℕ) (k : ℕ) → k < length form → get_or form k 64 ≡ get_or form k 0
kind_plain [] k h = absurd (omega (arith, h))
kind_plain (b ∷ form) zero h = refl
kind_plain (b ∷ form) (suc k) h = kind_plain form k (omega (arith, h))

pub kind_with : (form : List ℕ) (origin : Bool) (k : ℕ) {kind count : ℕ} → kind ≡ get_or form k 64 → count ≡ length (form_with origin form) → k < count → kind ≡ get_or (form_with origin form) k 0
unfolding form_with
kind_with form true k e c h = e ∙ kind_more form k (omega (arith, c, h))
kind_with form false k e c h = e ∙ kind_plain form k (omega (arith, c, h))

-- ---- whether `@` stands in a line

module _ (s : List ℕ) (i : ℕ) where
  pub at_passed : i < length s → (get_or s i 0 ≡ 10 → ⊥) → (get_or s i 0 ≡ 64 → ⊥) → has_at (drop i s) ≡ has_at (drop (i + 1) s)
  unfolding has_at
  at_passed h n m = rw (here s i h, ne_eqb (get_or s i 0) 10 n, ne_eqb (get_or s i 0) 64 m)

  pub at_feed : i < length s → get_or s i 0 ≡ 10 → has_at (drop i s) ≡ false
  unfolding has_at
  at_feed h e = rw (here s i h, e)

  pub at_found : i < length s → get_or s i 0 ≡ 64 → has_at (drop i s) ≡ true
  unfolding has_at
  at_found h e = rw (here s i h, e)

  pub at_end : length s ≤ i → has_at (drop i s) ≡ false
  unfolding has_at
  at_end h = rw (drop_of_length-le s {i = i} h)

-- the fields that are left, of those of the form
pub record Fielding (line form rest : List ℕ) (k : ℕ) : Type 0 where
  pub few : k ≤ length form
  pub left : fault_in (drop k form) rest ≡ fault_in form line

module _ {line form rest : List ℕ} {k : ℕ} (g : Fielding line form rest k) where
  pub fields_done : length form ≤ k → Fault.Order ≡ fault_in form line
  unfolding fault_in
  fields_done h = rw (drop_of_length-le form {i = k} h) at g.left

  module _ {left stop kind : ℕ} (n : Option (ℕ × Bor (List ℕ))) (h : k < length form) (z : left ≡ length form - k - 1) (t : stop ≡ stop_of left) (f : kind ≡ get_or form k 0) (r : seen n ≡ ended stop (read kind rest)) where
    behind : length (drop (k + 1) form) ≡ left
    behind = omega (arith, z, length-drop (k + 1) form)

    field : ended (stop_of (length (drop (k + 1) form))) (read (get_or form k 0) rest) ≡ seen n
    field = rw (behind, ← t, ← f) (sym r)

    pub field_read : {v : ℕ} {after : Bor (List ℕ)} → n ≡ Some (v, after) → Fielding line form after.now (k + 1)
    field_read {v} {after} q = record {
      few = omega arith;
      left = sym (reads_on (get_or form k 0) (drop (k + 1) form) rest v after.now (field ∙ ap seen q)) ∙ (rw (here form k h) at g.left);
    }

    pub field_bad : n ≡ None → field_fault kind left rest (read kind rest) ≡ fault_in form line
    field_bad q =
        let e = stops (get_or form k 0) (drop (k + 1) form) rest (field ∙ ap seen q) in
        rw (f, ← behind) (sym e ∙ (rw (here form k h) at g.left))

-- ---- what a byte says

pub told_end : (s : List ℕ) (base left : ℕ) → length s ≡ 0 → Spec.told base left s ≡ cond (eqb left 0) Fault.NoLineFeed Fault.FieldMissing
unfolding Spec.told
told_end [] base left h = refl
told_end (b ∷ s) base left h = absurd (omega arith)

-- ---- a line

module _ (form : ℕ → List ℕ → List ℕ) where
  pub no_line : (s : List ℕ) → length s ≡ 0 → Fault.NoLine ≡ line_fault form s
  unfolding line_fault
  no_line [] h = refl
  no_line (b ∷ s) h = absurd (omega arith)

  pub a_line : (s : List ℕ) {b : ℕ} {after : List ℕ} → IsFirstAndRest s b after → fault_in (form b s) s ≡ line_fault form s
  unfolding line_fault
  a_line s f = rw f.0
