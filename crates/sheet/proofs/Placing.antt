-- A row more in the table: it reads back as what was put, and all other rows are as they were. Assumes nothing.
use mathlib.Core.Path.{◌≡◌, ap, ◌∙◌}
use mathlib.Core.List.{List}
use Prim.Native.Nat.{ℕ, ◌+◌, ◌*◌, ◌/◌, ◌%◌, ◌≤◌, ◌<◌}
use native.Mathlib.Omega.{arith}
use native.Mathlib.Decide.{ℕ_discrete}
use lib.ListN.{length, get_or, set, length-set}
use lib.Seq.{get_or-set_same, get_or-set_other}
use lib.Ieee.{binary64}
use lib.Ieee.Bits.{of_bits-fits}
use borrow.Author.Tests.{eqb-true}
use Rattle.complex.specs.Bits.{bits_of, double_of, Canonical}
use Rattle.complex.proofs.Doubles.{double_back, read_canonical}
use Rattle.memory.specs.Layout.{cells_from, functions_from}
use Rattle.sheet.specs.declared.fields.Words.{Words}
use Rattle.sheet.specs.Seen.{number_of}
use Rattle.sheet.specs.Rows.{variable, cell, row}
use Rattle.expression.specs.Codes.{operation_of}
use Rattle.sheet.specs.Index.{name_in}
use Rattle.sheet.specs.Table.{number_at, variable_at, cell_at, row_at, Comparable, with_number, with_variable, with_cell, with_row, canonical_words, Outside, Alike}
use Rattle.sheet.proofs.Seeking.{both}
use Rattle.sheet.proofs.Indexing.{same_name, Owns}

abbrev words : ℕ → ℕ → Words
words re im = record { re = re; im = im }

pub set_outside : (t : List ℕ) (k v low high : ℕ) → low ≤ k → k < high → Outside t (set t k v) low high
set_outside t k v low high l h = record {
  below = λ i m. get_or-set_other t k i v 0 λ q. omega arith;
  beyond = λ i m. get_or-set_other t k i v 0 λ q. omega arith;
}

pub then_outside : {t t' t'' : List ℕ} {low high : ℕ} → Outside t t' low high → Outside t' t'' low high → Outside t t'' low high
then_outside p q = record { below = λ i m. q.below i m ∙ p.below i m; beyond = λ i m. q.beyond i m ∙ p.beyond i m }

-- ---- a number

canonical_back : (b : ℕ) → double_of (bits_of (double_of b)) ≡ double_of b
canonical_back b = double_back (double_of b) (of_bits-fits binary64 b)

module _ (t : List ℕ) (i : ℕ) (w : Words) where
  pub number_length : length (with_number t i w) ≡ length t
  unfolding with_number
  number_length = rw (length-set, length-set)

  pub number_outside : (low high : ℕ) → low ≤ i → i + 1 < high → Outside t (with_number t i w) low high
  unfolding with_number
  number_outside low high l h = then_outside (set_outside t i _ low high l (omega arith)) (set_outside _ (i + 1) _ low high (omega arith) h)

  module _ (h : i + 1 < length t) where
    pub number_first : get_or (with_number t i w) i 0 ≡ bits_of (double_of w.re)
    unfolding with_number
    number_first = get_or-set_other (set t i (bits_of (double_of w.re))) (i + 1) i (bits_of (double_of w.im)) 0 (λ q. omega arith) ∙ get_or-set_same t i (bits_of (double_of w.re)) 0 (omega arith)

    pub number_second : get_or (with_number t i w) (i + 1) 0 ≡ bits_of (double_of w.im)
    unfolding with_number
    number_second = get_or-set_same (set t i (bits_of (double_of w.re))) (i + 1) (bits_of (double_of w.im)) 0 (rw (length-set) h)

    pub number_there : number_at (with_number t i w) i ≡ number_of w
    number_there = rw (number_first, number_second, canonical_back w.re, canonical_back w.im)

-- ---- rows that stand apart from what changed

module _ {t t' : List ℕ} {low high : ℕ} (o : Outside t t' low high) where
  same_number : (i : ℕ) → i + 1 < low → number_at t' i ≡ number_at t i
  same_number i l = rw (o.below i (omega arith), o.below (i + 1) l)

  pub same_variable : (j : ℕ) → 3 * j + 2 < low → variable_at t' j ≡ variable_at t j
  same_variable j l = rw (o.below (3 * j) (omega arith), same_number (3 * j + 1) (omega arith))

  pub same_cell : (j : ℕ) → 2 * j + cells_from + 1 < low → cell_at t' j ≡ cell_at t j
  same_cell j l = rw (o.below (2 * j + cells_from) (omega arith), o.below (2 * j + cells_from + 1) (omega arith))

  pub same_cell_beyond : (j : ℕ) → high ≤ 2 * j + cells_from → cell_at t' j ≡ cell_at t j
  same_cell_beyond j l = rw (o.beyond (2 * j + cells_from) (omega arith), o.beyond (2 * j + cells_from + 1) (omega arith))

  pub alike_below : (j : ℕ) → 7 * j + functions_from + 6 < low → Alike t t' j
  alike_below j l = record { low = ap (λ w. w % 1048576) (o.below (7 * j + functions_from) (omega arith)); rest = λ i m k. o.below i (omega arith) }

  pub alike_beyond : (j : ℕ) → high ≤ 7 * j + functions_from → Alike t t' j
  alike_beyond j l = record { low = ap (λ w. w % 1048576) (o.beyond (7 * j + functions_from) l); rest = λ i m k. o.beyond i (omega arith) }

module _ {t t' : List ℕ} {j : ℕ} (a : Alike t t' j) where
  alike_number : (i : ℕ) → 7 * j + functions_from < i → i + 1 < 7 * j + functions_from + 7 → number_at t' i ≡ number_at t i
  alike_number i m k = rw (a.rest i m (omega arith), a.rest (i + 1) (omega arith) k)

  pub same_row : row_at t' j ≡ row_at t j
  same_row =
      rw (same_name a, alike_number (7 * j + functions_from + 1) (omega arith) (omega arith), alike_number (7 * j + functions_from + 3) (omega arith) (omega arith), alike_number (7 * j + functions_from + 5) (omega arith) (omega arith))

  pub same_comparable : Comparable t j → Comparable t' j
  same_comparable c = record { named = rw (same_name a) c.named; operands = λ i m k. rw (a.rest i m (omega arith)) (c.operands i m k) }

-- ---- a variable more

module _ (t : List ℕ) (n k : ℕ) (w : Words) where
  pub variable_outside : Outside t (with_variable t n k w) (3 * n) (3 * n + 3)
  unfolding with_variable
  variable_outside =
      then_outside (set_outside t (3 * n) k (3 * n) (3 * n + 3) (omega arith) (omega arith)) (number_outside _ (3 * n + 1) w (3 * n) (3 * n + 3) (omega arith) (omega arith))

  module _ (h : 3 * n + 2 < length t) where
    pub variable_key : get_or (with_variable t n k w) (3 * n) 0 ≡ k
    unfolding with_variable
    variable_key = (number_outside (set t (3 * n) k) (3 * n + 1) w (3 * n + 1) (3 * n + 3) (omega arith) (omega arith)).below (3 * n) (omega arith) ∙ get_or-set_same t (3 * n) k 0 (omega arith)

    pub variable_there : variable_at (with_variable t n k w) n ≡ variable k (number_of w)
    unfolding with_variable
    variable_there =
        let q : number_at (with_variable t n k w) (3 * n + 1) ≡ number_of w = number_there (set t (3 * n) k) (3 * n + 1) w (rw length-set (omega arith)) in
        rw (variable_key, q)

-- ---- a cell more

module _ (t : List ℕ) (n k real : ℕ) where
  pub cell_outside : Outside t (with_cell t n k real) (2 * n + cells_from) (2 * n + cells_from + 2)
  unfolding with_cell
  cell_outside = then_outside (set_outside t (2 * n + cells_from) k _ _ (omega arith) (omega arith)) (set_outside _ (2 * n + cells_from + 1) _ (2 * n + cells_from) (2 * n + cells_from + 2) (omega arith) (omega arith))

  module _ (h : 2 * n + cells_from + 1 < length t) where
    pub cell_key : get_or (with_cell t n k real) (2 * n + cells_from) 0 ≡ k
    unfolding with_cell
    cell_key = get_or-set_other (set t (2 * n + cells_from) k) (2 * n + cells_from + 1) (2 * n + cells_from) (bits_of (double_of real)) 0 (λ q. omega arith) ∙ get_or-set_same t (2 * n + cells_from) k 0 (omega arith)

    cell_real : get_or (with_cell t n k real) (2 * n + cells_from + 1) 0 ≡ bits_of (double_of real)
    unfolding with_cell
    cell_real = get_or-set_same (set t (2 * n + cells_from) k) (2 * n + cells_from + 1) (bits_of (double_of real)) 0 (rw length-set h)

    pub cell_there : (region index : ℕ) → k ≡ region * 4294967296 + index → index < 4294967296 → cell_at (with_cell t n k real) n ≡ cell region index (double_of real)
    cell_there region index e l =
        let q : k / 4294967296 ≡ region = omega arith in
        let r : k % 4294967296 ≡ index = omega arith in
        rw (cell_key, cell_real, q, r, canonical_back real)

-- ---- a function value more

same_words : {w v : Words} → w.re ≡ v.re → w.im ≡ v.im → w ≡ v
same_words {w} {v} e d = ap (λ a. words a w.im) e ∙ ap (words v.re) d

module _ (t : List ℕ) (n k : ℕ) (x y z : Words) where
  named : List ℕ
  named = set t (7 * n + functions_from) k

  firstly : List ℕ
  firstly = with_number named (7 * n + functions_from + 1) x

  secondly : List ℕ
  secondly = with_number firstly (7 * n + functions_from + 3) y

  pub row_outside : Outside t (with_row t n k x y z) (7 * n + functions_from) (7 * n + functions_from + 7)
  unfolding with_row named firstly secondly
  row_outside =
      then_outside (set_outside t (7 * n + functions_from) k (7 * n + functions_from) (7 * n + functions_from + 7) (omega arith) (omega arith))
      (then_outside (number_outside named (7 * n + functions_from + 1) x (7 * n + functions_from) (7 * n + functions_from + 7) (omega arith) (omega arith))
      (then_outside (number_outside firstly (7 * n + functions_from + 3) y (7 * n + functions_from) (7 * n + functions_from + 7) (omega arith) (omega arith))
      (number_outside secondly (7 * n + functions_from + 5) z (7 * n + functions_from) (7 * n + functions_from + 7) (omega arith) (omega arith))))

  -- after each step what came before stays
  after_name : Outside named (with_row t n k x y z) (7 * n + functions_from + 1) (7 * n + functions_from + 7)
  unfolding with_row named firstly secondly
  after_name =
      then_outside (number_outside named (7 * n + functions_from + 1) x (7 * n + functions_from + 1) (7 * n + functions_from + 7) (omega arith) (omega arith))
      (then_outside (number_outside firstly (7 * n + functions_from + 3) y (7 * n + functions_from + 1) (7 * n + functions_from + 7) (omega arith) (omega arith))
      (number_outside secondly (7 * n + functions_from + 5) z (7 * n + functions_from + 1) (7 * n + functions_from + 7) (omega arith) (omega arith)))

  after_first : Outside firstly (with_row t n k x y z) (7 * n + functions_from + 3) (7 * n + functions_from + 7)
  unfolding with_row named firstly secondly
  after_first =
      then_outside (number_outside firstly (7 * n + functions_from + 3) y (7 * n + functions_from + 3) (7 * n + functions_from + 7) (omega arith) (omega arith))
      (number_outside secondly (7 * n + functions_from + 5) z (7 * n + functions_from + 3) (7 * n + functions_from + 7) (omega arith) (omega arith))

  after_second : Outside secondly (with_row t n k x y z) (7 * n + functions_from + 5) (7 * n + functions_from + 7)
  unfolding with_row named firstly secondly
  after_second = number_outside secondly (7 * n + functions_from + 5) z (7 * n + functions_from + 5) (7 * n + functions_from + 7) (omega arith) (omega arith)

  named_length : length named ≡ length t
  unfolding named
  named_length = length-set t (7 * n + functions_from) k

  firstly_length : length firstly ≡ length t
  unfolding firstly
  firstly_length = number_length named (7 * n + functions_from + 1) x ∙ named_length

  secondly_length : length secondly ≡ length t
  unfolding secondly
  secondly_length = number_length firstly (7 * n + functions_from + 3) y ∙ firstly_length

  pub row_length : length (with_row t n k x y z) ≡ length t
  unfolding with_row named firstly secondly
  row_length = number_length secondly (7 * n + functions_from + 5) z ∙ secondly_length

  module _ (h : 7 * n + functions_from + 6 < length t) where
    pub row_name : get_or (with_row t n k x y z) (7 * n + functions_from) 0 ≡ k
    unfolding named
    row_name = after_name.below (7 * n + functions_from) (omega arith) ∙ get_or-set_same t (7 * n + functions_from) k 0 (omega arith)

    row_xre : get_or (with_row t n k x y z) (7 * n + functions_from + 1) 0 ≡ bits_of (double_of x.re)
    unfolding firstly
    row_xre = after_first.below (7 * n + functions_from + 1) (omega arith) ∙ number_first named (7 * n + functions_from + 1) x (omega (arith, named_length))

    row_xim : get_or (with_row t n k x y z) (7 * n + functions_from + 1 + 1) 0 ≡ bits_of (double_of x.im)
    unfolding firstly
    row_xim = after_first.below (7 * n + functions_from + 1 + 1) (omega arith) ∙ number_second named (7 * n + functions_from + 1) x (omega (arith, named_length))

    row_yre : get_or (with_row t n k x y z) (7 * n + functions_from + 3) 0 ≡ bits_of (double_of y.re)
    unfolding secondly
    row_yre = after_second.below (7 * n + functions_from + 3) (omega arith) ∙ number_first firstly (7 * n + functions_from + 3) y (omega (arith, firstly_length))

    row_yim : get_or (with_row t n k x y z) (7 * n + functions_from + 3 + 1) 0 ≡ bits_of (double_of y.im)
    unfolding secondly
    row_yim = after_second.below (7 * n + functions_from + 3 + 1) (omega arith) ∙ number_second firstly (7 * n + functions_from + 3) y (omega (arith, firstly_length))

    row_value : number_at (with_row t n k x y z) (7 * n + functions_from + 5) ≡ number_of z
    unfolding with_row named firstly secondly
    row_value = number_there secondly (7 * n + functions_from + 5) z (omega (arith, secondly_length))

    pub row_there : row_at (with_row t n k x y z) n ≡ row (operation_of (name_in k)) (number_of x) (number_of y) (number_of z)
    row_there = rw (row_name, row_xre, row_xim, row_yre, row_yim, row_value, canonical_back x.re, canonical_back x.im, canonical_back y.re, canonical_back y.im)

    operand : (i b : ℕ) → get_or (with_row t n k x y z) i 0 ≡ bits_of (double_of b) → Canonical (get_or (with_row t n k x y z) i 0)
    operand i b e = rw e (read_canonical b)

    pub row_comparable : 0 < name_in k → name_in k < 6 → Comparable (with_row t n k x y z) n
    row_comparable p l = record {
      named = rw row_name (p, l);
      operands = λ i m u. elim (ℕ_discrete i (7 * n + functions_from + 1)) [
        | yes e ↦ rw e (operand (7 * n + functions_from + 1) x.re row_xre)
        | no a ↦ elim (ℕ_discrete i (7 * n + functions_from + 1 + 1)) [
          | yes e ↦ rw e (operand (7 * n + functions_from + 1 + 1) x.im row_xim)
          | no b ↦ elim (ℕ_discrete i (7 * n + functions_from + 3)) [
            | yes e ↦ rw e (operand (7 * n + functions_from + 3) y.re row_yre)
            | no d ↦ let e : i ≡ 7 * n + functions_from + 3 + 1 = omega arith in rw e (operand (7 * n + functions_from + 3 + 1) y.im row_yim)
          ]
        ]
      ];
    }

    -- what matches the row has its name and its operands
    pub row_owns : Owns (with_row t n k x y z) n (name_in k) (canonical_words x) (canonical_words y)
    row_owns = record {
      own = λ name' x' y' e.
          let p = both _ _ e in
          let q = both _ _ p.1 in
          let u = both _ _ q.0 in
          let v = both _ _ q.1 in (
            eqb-true _ _ p.0 ∙ ap name_in row_name,
            same_words (eqb-true _ _ u.0 ∙ row_xre) (eqb-true _ _ u.1 ∙ row_xim),
            same_words (eqb-true _ _ v.0 ∙ row_yre) (eqb-true _ _ v.1 ∙ row_yim),
          );
    }
