-- What is looked up: the row that a search found is the one that the definition finds. Assumes nothing.
use mathlib.Core.Path.{◌≡◌, refl, sym, ap, ◌∙◌}
use mathlib.Core.List.{List, [], ◌∷◌}
use mathlib.Core.Bool.{Bool, true, false, ◌&&◌}
use Prim.Native.Nat.{ℕ, zero, suc, ◌+◌, ◌*◌, ◌/◌, ◌%◌, ◌<◌}
use native.Mathlib.Omega.{arith}
use native.Mathlib.Decide.{ℕ_discrete}
use lib.ListN.{get_or}
use lib.Dec.{eqb}
use borrow.Author.Tests.{eq-eqb, ne_eqb}
use Rattle.complex.specs.declared.Complex.{Complex}
use Rattle.complex.specs.Bits.{bits_of, double_of}
use Rattle.complex.proofs.Doubles.{bits_back}
use Rattle.expression.specs.declared.refusal.Operation.{Operation}
use Rattle.std.specs.Prelude.{Some, None}
use Rattle.memory.specs.Keys.{up_to, key_at, FirstOf, holds}
use Rattle.memory.proofs.Values.{first, first_found, first_missing_lem}
use Rattle.memory.specs.Layout.{cells_from, functions_from}
use Rattle.sheet.specs.declared.Counts.{Counts}
use Rattle.complex.specs.Equality.{identical, identical_doubles}
use Rattle.sheet.specs.Rows.{Variable, variable, Cell, cell, Row, Lookup, found, missing, value_of, cell_value, at, nowhere, matches, value_in, row_from, function_row}
use Rattle.expression.specs.Codes.{operation_code, operation_of}
use Rattle.expression.proofs.Numbering.{operation_code_back}
use Rattle.sheet.specs.Index.{word_at, name_in}
use Rattle.sheet.specs.Table.{number_at, variable_at, cell_at, row_at, Comparable, Held, words_of, row_matches}
use Rattle.sheet.proofs.Ordering.{plain_key}

-- ---- each look-up is the first row that passes its test

named : ℕ → Variable → Bool
named n (variable n' value) = eqb n n'

valued : Variable → Lookup
valued (variable n value) = found value

values_first : (n : ℕ) (vs : List Variable) → first (named n) valued missing vs ≡ value_of n vs
unfolding first value_of named valued
values_first n [] = refl
values_first n (variable n' value ∷ vs) = rw (values_first n vs)

placed : (region index : ℕ) → Cell → Bool
placed region index (cell region' index' real) = eqb region region' && eqb index index'

real_of : Cell → Lookup
real_of (cell region index real) = found (record { re = real; im = double_of 0 })

cells_first : (region index : ℕ) (cs : List Cell) → first (placed region index) real_of missing cs ≡ cell_value region index cs
unfolding first cell_value placed real_of
cells_first region index [] = refl
cells_first region index (cell region' index' real ∷ cs) = rw (cells_first region index cs)

row_first : (o : Operation) (x y : Complex) (n : ℕ) (f : ℕ → Row) (next r k : ℕ) → k ≡ next + r → r < n → matches o x y (f r) ≡ true → ((j : ℕ) → j < r → matches o x y (f j) ≡ false)
    → at k (value_in (f r)) ≡ row_from next o x y (up_to n f)
unfolding row_from up_to
row_first o x y zero f next r k e l h b = absurd (omega arith)
row_first o x y (suc n) f next zero k e l h b = let p : k ≡ next = omega (arith, e) in rw (h, p)
row_first o x y (suc n) f next (suc r) k e l h b =
    rw (b zero (omega arith)) (row_first o x y n (λ j. f (suc j)) (suc next) r k (omega (arith, e)) (omega arith) h λ j m. b (suc j) (omega arith))

row_nowhere : (o : Operation) (x y : Complex) (n : ℕ) (f : ℕ → Row) (next : ℕ) → ((j : ℕ) → j < n → matches o x y (f j) ≡ false) → nowhere ≡ row_from next o x y (up_to n f)
unfolding row_from up_to
row_nowhere o x y zero f next b = refl
row_nowhere o x y (suc n) f next b = rw (b zero (omega arith)) (row_nowhere o x y n (λ j. f (suc j)) (suc next) λ j m. b (suc j) (omega arith))

-- ---- tests on the table's words

-- a pair is one number
pair_key_lem : (region index w : ℕ) → index < 4294967296 → eqb (region * 4294967296 + index) w ≡ eqb region (w / 4294967296) && eqb index (w % 4294967296)
pair_key_lem region index w h = elim (ℕ_discrete region (w / 4294967296)) [
  | yes e ↦ rw (eq-eqb region (w / 4294967296) e) (elim (ℕ_discrete index (w % 4294967296)) [
    | yes i ↦ rw (eq-eqb index (w % 4294967296) i) (eq-eqb (region * 4294967296 + index) w (omega arith))
    | no i ↦ rw (ne_eqb index (w % 4294967296) i) (ne_eqb (region * 4294967296 + index) w λ q. i (omega arith))
  ])
  | no e ↦ rw (ne_eqb region (w / 4294967296) e) (ne_eqb (region * 4294967296 + index) w λ q. e (omega arith))
]

pub number_back : (w : ℕ) → 0 < w → w < 6 → operation_code (operation_of w) ≡ w
number_back w p q = operation_code_back w (record { least = omega (arith, p); most = omega (arith, q) })

row_test : (t : List ℕ) (o : Operation) (x y : Complex) (j : ℕ) → Comparable t j → row_matches t (operation_code o) (words_of x) (words_of y) j ≡ matches o x y (row_at t j)
unfolding matches identical identical_doubles
row_test t o x y j c =
    let xr : bits_of (double_of (get_or t (7 * j + functions_from + 1) 0)) ≡ get_or t (7 * j + functions_from + 1) 0 = bits_back _ (c.operands (7 * j + functions_from + 1) (omega arith) (omega arith)) in
    let xi : bits_of (double_of (get_or t (7 * j + functions_from + 1 + 1) 0)) ≡ get_or t (7 * j + functions_from + 1 + 1) 0 = bits_back _ (c.operands (7 * j + functions_from + 1 + 1) (omega arith) (omega arith)) in
    let yr : bits_of (double_of (get_or t (7 * j + functions_from + 3) 0)) ≡ get_or t (7 * j + functions_from + 3) 0 = bits_back _ (c.operands (7 * j + functions_from + 3) (omega arith) (omega arith)) in
    let yi : bits_of (double_of (get_or t (7 * j + functions_from + 3 + 1) 0)) ≡ get_or t (7 * j + functions_from + 3 + 1) 0 = bits_back _ (c.operands (7 * j + functions_from + 3 + 1) (omega arith) (omega arith)) in
    rw (number_back (name_in (word_at t j)) c.named.0 c.named.1, xr, xi, yr, yi)

-- ---- what a search found

module _ (t : List ℕ) (n : Counts) (h : Held t n) where
  module _ (k : ℕ) where
    pub variable_found : (r : ℕ) → FirstOf (holds (key_at t 0 3) k) n.variables (Some r) → found (number_at t (3 * r + 1)) ≡ value_of k (up_to n.variables (variable_at t))
    unfolding named valued
    variable_found r s = first_found (named k) valued missing n.variables (variable_at t) r s.0 (ap (eqb k) (sym (plain_key t r)) ∙ s.1.hit s.0) (λ j m. ap (eqb k) (sym (plain_key t j)) ∙ s.1.before j m) ∙ values_first k _

    pub variable_missing : FirstOf (holds (key_at t 0 3) k) n.variables None → missing ≡ value_of k (up_to n.variables (variable_at t))
    unfolding named
    variable_missing s = first_missing_lem (named k) valued missing n.variables (variable_at t) (λ j m. ap (eqb k) (sym (plain_key t j)) ∙ s j m) ∙ values_first k _

  module _ (region index : ℕ) (small : index < 4294967296) where
    pub cell_found : (r : ℕ) → FirstOf (holds (key_at t cells_from 2) (region * 4294967296 + index)) n.cells (Some r)
        → found (record { re = double_of (get_or t (2 * r + cells_from + 1) 0); im = double_of 0 }) ≡ cell_value region index (up_to n.cells (cell_at t))
    unfolding placed real_of
    cell_found r s =
        first_found (placed region index) real_of missing n.cells (cell_at t) r s.0 (sym (pair_key_lem region index (get_or t (2 * r + cells_from) 0) small) ∙ s.1.hit s.0)
        (λ j m. sym (pair_key_lem region index (get_or t (2 * j + cells_from) 0) small) ∙ s.1.before j m) ∙ cells_first region index _

    pub cell_missing : FirstOf (holds (key_at t cells_from 2) (region * 4294967296 + index)) n.cells None → missing ≡ cell_value region index (up_to n.cells (cell_at t))
    unfolding placed
    cell_missing s =
        first_missing_lem (placed region index) real_of missing n.cells (cell_at t) (λ j m. sym (pair_key_lem region index (get_or t (2 * j + cells_from) 0) small) ∙ s j m)
        ∙ cells_first region index _

  module _ (o : Operation) (x y : Complex) where
    pub row_found : (r : ℕ) → FirstOf (row_matches t (operation_code o) (words_of x) (words_of y)) n.functions (Some r)
        → at r (number_at t (7 * r + functions_from + 5)) ≡ function_row o x y (up_to n.functions (row_at t))
    unfolding value_in
    row_found r s =
        row_first o x y n.functions (row_at t) 0 r r (omega arith) s.0 (sym (row_test t o x y r (h.operands r s.0)) ∙ s.1.hit s.0)
        (λ j m. sym (row_test t o x y j (h.operands j (omega (arith, s.0)))) ∙ s.1.before j m)

    pub row_missing : FirstOf (row_matches t (operation_code o) (words_of x) (words_of y)) n.functions None → nowhere ≡ function_row o x y (up_to n.functions (row_at t))
    row_missing s = row_nowhere o x y n.functions (row_at t) 0 λ j m. sym (row_test t o x y j (h.operands j m)) ∙ s j m
