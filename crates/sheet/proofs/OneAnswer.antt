-- Two answers that the contract of `read_sheet` allows are equal, and so are two that those of the look-ups, of a line and of its fields allow.
-- Assumes nothing.
use Rattle.std.specs.Borrow.{Bor}
use mathlib.Core.Path.{◌≡◌, refl, sym, ap, ◌∙◌, subst}
use mathlib.Core.List.{List}
use Prim.Native.Nat.{ℕ}
use native.Mathlib.Omega.{arith}
use lib.ListN.{length}
use Rattle.std.specs.Prelude.{Option, Some, None, Result, Ok, Err}
use Rattle.complex.specs.declared.Complex.{Complex}
use Rattle.complex.specs.Bits.{double_of}
use Rattle.expression.specs.declared.refusal.Refusal.{Refusal}
use Rattle.expression.specs.Codes.{operation_code, operation_of}
use Rattle.text.specs.Reading.{Read}
use Rattle.text.specs.Lines as Lines
use Rattle.text.specs.Lines.{Line, goes, stops, Whole}
use Rattle.text.proofs.Only.{never}
use Rattle.memory.proofs.Values.{length_up_to}
use Rattle.sheet.specs.declared.Counts.{Counts}
use Rattle.sheet.specs.declared.fields.VariableFields.{VariableFields}
use Rattle.sheet.specs.declared.fields.CellFields.{CellFields}
use Rattle.sheet.specs.declared.fields.RowFields.{RowFields}
use Rattle.sheet.specs.Rows.{Variable, Cell, Row, Rows, Lookup, found, missing, Numbered, at, nowhere, sheet}
use Rattle.sheet.specs.Index.{link_of}
use Rattle.sheet.specs.Seen.{number_of, seen_variable, seen_cell, seen_row, small_cell, small_row}
use Rattle.sheet.specs.Table.{rows_of, seen, seen_found, seen_found_row, Takes}
use Rattle.sheet.proofs.Finding.{number_back}

-- the rows that a table holds have their counts
pub one_counts : (t₁ t₂ : List ℕ) (n k : Counts) → rows_of t₁ n ≡ rows_of t₂ k → n ≡ k
one_counts t₁ t₂ n k e =
    let v = sym (length_up_to n.variables _) ∙ ap (λ x. length x.variables) e ∙ length_up_to k.variables _ in
    let c = sym (length_up_to n.cells _) ∙ ap (λ x. length x.cells) e ∙ length_up_to k.cells _ in
    let f = sym (length_up_to n.functions _) ∙ ap (λ x. length x.functions) e ∙ length_up_to k.functions _ in
    λ i. record { variables = v i; cells = c i; functions = f i }

-- what an answer has
counts_in : (Rows → ℕ) → Whole Rows Refusal → ℕ
counts_in count (Lines.read s) = count s
counts_in count (Lines.refused why) = 0

why_in : Whole Rows Refusal → Refusal → Refusal
why_in (Lines.read s) other = other
why_in (Lines.refused why) other = why

IsRead : Whole Rows Refusal → Type 0
IsRead (Lines.read s) = Unit {0}
IsRead (Lines.refused why) = ⊥

pub one_sheet : (text t₁ t₂ : List ℕ) (r r' : Result Counts Refusal) → seen t₁ r ≡ sheet text → seen t₂ r' ≡ sheet text → r ≡ r'
unfolding counts_in why_in IsRead
one_sheet text t₁ t₂ (Ok n) (Ok k) p q =
    let e = p ∙ sym q in
    let v = sym (length_up_to n.variables _) ∙ ap (counts_in (λ s. length s.variables)) e ∙ length_up_to k.variables _ in
    let c = sym (length_up_to n.cells _) ∙ ap (counts_in (λ s. length s.cells)) e ∙ length_up_to k.cells _ in
    let f = sym (length_up_to n.functions _) ∙ ap (counts_in (λ s. length s.functions)) e ∙ length_up_to k.functions _ in
    λ i. Ok (record { variables = v i; cells = c i; functions = f i })
one_sheet text t₁ t₂ (Ok n) (Err why) p q = absurd (subst IsRead (p ∙ sym q) tt)
one_sheet text t₁ t₂ (Err why) (Ok k) p q = absurd (subst IsRead (q ∙ sym p) tt)
one_sheet text t₁ t₂ (Err why) (Err why') p q = ap (λ x. Err (why_in x why)) (p ∙ sym q)

-- and the rows that the table then holds
rows_in : Whole Rows Refusal → Rows → Rows
rows_in (Lines.read s) other = s
rows_in (Lines.refused why) other = other

pub one_table : (text t₁ t₂ : List ℕ) (n k : Counts) → seen t₁ (Ok n) ≡ sheet text → seen t₂ (Ok k) ≡ sheet text → rows_of t₁ n ≡ rows_of t₂ k
unfolding rows_in
one_table text t₁ t₂ n k p q = ap (λ w. rows_in w (rows_of t₁ n)) (p ∙ sym q)

value_in : Lookup → Complex → Complex
value_in (found z) other = z
value_in missing other = other

IsFound : Lookup → Type 0
IsFound (found z) = Unit {0}
IsFound missing = ⊥

pub one_found : {want : Lookup} (r r' : Option Complex) → seen_found r ≡ want → seen_found r' ≡ want → r ≡ r'
unfolding value_in IsFound
one_found (Some x) (Some y) p q = ap (λ l. Some (value_in l x)) (p ∙ sym q)
one_found (Some x) None p q = absurd (subst IsFound (p ∙ sym q) tt)
one_found None (Some y) p q = absurd (subst IsFound (q ∙ sym p) tt)
one_found None None p q = refl

row_in : Numbered → ℕ → ℕ
row_in (at j z) other = j
row_in nowhere other = other

row_value_in : Numbered → Complex → Complex
row_value_in (at j z) other = z
row_value_in nowhere other = other

IsAt : Numbered → Type 0
IsAt (at j z) = Unit {0}
IsAt nowhere = ⊥

pub one_found_row : {want : Numbered} (r r' : Option (ℕ × Complex)) → seen_found_row r ≡ want → seen_found_row r' ≡ want → r ≡ r'
unfolding row_in row_value_in IsAt
one_found_row (Some (j, x)) (Some (k, y)) p q = ap (λ l. Some (row_in l j, row_value_in l x)) (p ∙ sym q)
one_found_row (Some (j, x)) None p q = absurd (subst IsAt (p ∙ sym q) tt)
one_found_row None (Some (k, y)) p q = absurd (subst IsAt (q ∙ sym p) tt)
one_found_row None None p q = refl

-- what heads a bucket or follows a row
pub one_link : (r r' : Option ℕ) → link_of r ≡ link_of r' → r ≡ r'
one_link (Some j) (Some k) e = ap Some (omega (arith, e))
one_link (Some j) None e = absurd (omega (arith, e))
one_link None (Some k) e = absurd (omega (arith, e))
one_link None None e = refl

-- ---- the fields of a line: the numbers, the doubles and the bytes after them. The words of a double that is a NaN are not told, so that the doubles are
-- compared and not their words

pub SameVariable : Option (VariableFields × Bor (List ℕ)) → Option (VariableFields × Bor (List ℕ)) → Type 0
SameVariable (Some (v, i)) (Some (w, j)) = (v.number ≡ w.number) × (number_of v.value ≡ number_of w.value) × (i.now ≡ j.now)
SameVariable (Some (v, i)) None = ⊥
SameVariable None (Some (w, j)) = ⊥
SameVariable None None = Unit {0}

pub one_variable : {want : Read Variable} (r r' : Option (VariableFields × Bor (List ℕ))) → seen_variable r ≡ want
    → seen_variable r' ≡ want → SameVariable r r'
unfolding SameVariable
one_variable (Some (v, i)) (Some (w, j)) p q =
    let e = p ∙ sym q in
    let a : v.number ≡ w.number = cc in
    let b : number_of v.value ≡ number_of w.value = cc in
    let c : i.now ≡ j.now = cc in
    (a, b, c)
one_variable (Some (v, i)) None p q = never (q ∙ sym p)
one_variable None (Some (w, j)) p q = never (p ∙ sym q)
one_variable None None p q = tt

pub SameCell : Option (CellFields × Bor (List ℕ)) → Option (CellFields × Bor (List ℕ)) → Type 0
SameCell (Some (a, i)) (Some (b, j)) = (a.region ≡ b.region) × (a.index ≡ b.index) × (double_of a.real ≡ double_of b.real) × (i.now ≡ j.now)
SameCell (Some (a, i)) None = ⊥
SameCell None (Some (b, j)) = ⊥
SameCell None None = Unit {0}

pub one_cell : {want : Read Cell} (r r' : Option (CellFields × Bor (List ℕ))) → (seen_cell r ≡ want) × small_cell r
    → (seen_cell r' ≡ want) × small_cell r' → SameCell r r'
unfolding SameCell
one_cell (Some (a, i)) (Some (b, j)) p q =
    let e = p.0 ∙ sym q.0 in
    let region : a.region ≡ b.region = cc in
    let index : a.index ≡ b.index = cc in
    let real : double_of a.real ≡ double_of b.real = cc in
    let place : i.now ≡ j.now = cc in
    (region, index, real, place)
one_cell (Some (a, i)) None p q = never (q.0 ∙ sym p.0)
one_cell None (Some (b, j)) p q = never (p.0 ∙ sym q.0)
one_cell None None p q = tt

pub SameRow : Option (RowFields × Bor (List ℕ)) → Option (RowFields × Bor (List ℕ)) → Type 0
SameRow (Some (a, i)) (Some (b, j)) =
    (a.name ≡ b.name) × (number_of a.x ≡ number_of b.x) × (number_of a.y ≡ number_of b.y) × (number_of a.value ≡ number_of b.value) × (i.now ≡ j.now)
SameRow (Some (a, i)) None = ⊥
SameRow None (Some (b, j)) = ⊥
SameRow None None = Unit {0}

pub one_row : {want : Read Row} (r r' : Option (RowFields × Bor (List ℕ))) → (seen_row r ≡ want) × small_row r
    → (seen_row r' ≡ want) × small_row r' → SameRow r r'
unfolding SameRow
one_row (Some (a, i)) (Some (b, j)) p q =
    let e = p.0 ∙ sym q.0 in
    let o : operation_of a.name ≡ operation_of b.name = cc in
    let name : a.name ≡ b.name = sym (number_back a.name p.1.0 p.1.1) ∙ ap operation_code o ∙ number_back b.name q.1.0 q.1.1 in
    let first : number_of a.x ≡ number_of b.x = cc in
    let second : number_of a.y ≡ number_of b.y = cc in
    let value : number_of a.value ≡ number_of b.value = cc in
    let place : i.now ≡ j.now = cc in
    (name, first, second, value, place)
one_row (Some (a, i)) None p q = never (q.0 ∙ sym p.0)
one_row None (Some (b, j)) p q = never (p.0 ∙ sym q.0)
one_row None None p q = tt

-- ---- a line: the counts and the bytes after it, or the refusal; and the rows that the table then holds

goes_on : {A : Type 0} {s : Rows} {rest : List ℕ} {why : Refusal} → ◌≡◌ {A = Line Rows Refusal} (stops why) (goes s rest) → A
goes_on e = let z : ◌≡◌ {A = ℕ} 0 1 = cc in absurd (omega arith)

-- what an answer says
abbrev pub said : Result (Counts × Bor (List ℕ)) Refusal → Result (Counts × List ℕ) Refusal
said (Ok (a, rest)) = Ok (a, rest.now)
said (Err why) = Err why

module _ {line : Line Rows Refusal} {t₁ t₂ : List ℕ} {n : Counts} where
  pub one_line : (r r' : Result (Counts × Bor (List ℕ)) Refusal) → Takes t₁ n line r → Takes t₂ n line r' → said r ≡ said r'
  one_line (Ok (a, i)) (Ok (b, j)) p q =
      let e = p.answer ∙ sym q.answer in
      let s : rows_of t₁ a ≡ rows_of t₂ b = cc in
      let rest : i.now ≡ j.now = cc in
      let counts : a ≡ b = one_counts t₁ t₂ a b s in
      λ x. Ok (counts x, rest x)
  one_line (Ok (a, i)) (Err why) p q = goes_on (q.answer ∙ sym p.answer)
  one_line (Err why) (Ok (b, j)) p q = goes_on (p.answer ∙ sym q.answer)
  one_line (Err why) (Err why') p q = let e = p.answer ∙ sym q.answer in let w : why ≡ why' = cc in ap Err w

  pub one_rows : (a b : Counts) (i j : Bor (List ℕ)) → Takes t₁ n line (Ok (a, i)) → Takes t₂ n line (Ok (b, j)) → rows_of t₁ a ≡ rows_of t₂ b
  one_rows a b i j p q = let e = p.answer ∙ sym q.answer in cc
