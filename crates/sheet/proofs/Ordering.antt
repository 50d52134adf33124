-- The order of lines: `above` on keys is the definition's order on rows. Assumes nothing.
use mathlib.Core.Path.{◌≡◌, refl, sym, ap}
use mathlib.Core.List.{List}
use mathlib.Core.Bool.{true, false}
use Prim.Native.Nat.{ℕ, zero, suc, ◌+◌, ◌-◌, ◌*◌, ◌/◌, ◌%◌, ◌≤◌, ◌<◌}
use native.Mathlib.Nat.{add-zero}
use native.Mathlib.Omega.{arith}
use native.Mathlib.Decide.{dec_lt, ℕ_discrete}
use lib.ListN.{get_or}
use lib.Dec.{ltb, eqb}
use lib.Ieee.{Float}
use borrow.Author.Tests.{lt-ltb, le-ltb, eq-eqb, ne_eqb, ltb-true}
use Rattle.complex.specs.declared.Complex.{Complex}
use Rattle.memory.specs.Keys.{up_to, key_at, Ascends}
use Rattle.memory.proofs.Ascending.{ascends_same}
use Rattle.memory.specs.Layout.{cells_from}
use Rattle.sheet.specs.declared.Counts.{Counts}
use Rattle.text.specs.Lines.{none, above_last}
use Rattle.sheet.specs.Rows.{variable, cell, above_number, above_pair}
use Rattle.sheet.specs.Table.{number_key, pair_key, above, variable_may, cell_may}

pub none_up_to : {A : Type 0} (n : ℕ) (f : ℕ → A) → none (up_to n f) ≡ eqb n 0
unfolding none up_to
none_up_to zero f = refl
none_up_to (suc n) f = sym (ne_eqb (suc n) 0 λ q. omega arith)

pub variables_above : (key : ℕ → ℕ) (value : ℕ → Complex) (n k : ℕ) (z : Complex)
    → above_last above_number (up_to n (λ j. variable (key j) (value j))) (variable k z) ≡ above key n k
unfolding above_last above_number above up_to
variables_above key value zero k z = refl
variables_above key value (suc zero) k z = refl
variables_above key value (suc (suc n)) k z = variables_above (λ j. key (suc j)) (λ j. value (suc j)) (suc n) k z

-- pairs ascend as their numbers do
pair_above : (w region index : ℕ) (r r' : Float) → index < 4294967296
    → above_pair (cell (w / 4294967296) (w % 4294967296) r) (cell region index r') ≡ ltb w (region * 4294967296 + index)
unfolding above_pair
pair_above w region index r r' h = elim (dec_lt (w / 4294967296) region) [
  | yes l ↦ rw (lt-ltb (w / 4294967296) region l, lt-ltb w (region * 4294967296 + index) (omega arith))
  | no g ↦ rw (le-ltb (w / 4294967296) region (omega arith)) (elim (ℕ_discrete (w / 4294967296) region) [
    | yes e ↦ rw (eq-eqb (w / 4294967296) region e) (elim (dec_lt (w % 4294967296) index) [
      | yes l ↦ rw (lt-ltb (w % 4294967296) index l, lt-ltb w (region * 4294967296 + index) (omega arith))
      | no m ↦ rw (le-ltb (w % 4294967296) index (omega arith), le-ltb w (region * 4294967296 + index) (omega arith))
    ])
    | no n ↦ rw (ne_eqb (w / 4294967296) region n, le-ltb w (region * 4294967296 + index) (omega arith))
  ])
]

pub cells_above : (key : ℕ → ℕ) (real : ℕ → Float) (n region index : ℕ) (r : Float) → index < 4294967296
    → above_last above_pair (up_to n (λ j. cell (key j / 4294967296) (key j % 4294967296) (real j))) (cell region index r) ≡ above key n (region * 4294967296 + index)
unfolding above_last above up_to
cells_above key real zero region index r h = refl
cells_above key real (suc zero) region index r h = pair_above (key zero) region index (real zero) r h
cells_above key real (suc (suc n)) region index r h = cells_above (λ j. key (suc j)) (λ j. real (suc j)) (suc n) region index r h

pub above_last_lem : (key : ℕ → ℕ) (n k : ℕ) → above key n k ≡ true → (j : ℕ) → j + 1 ≡ n → key j < k
unfolding above
above_last_lem key zero k e j q = absurd (omega arith)
above_last_lem key (suc n) k e j q = let i : j ≡ n = omega arith in rw i (ltb-true (key n) k e)

-- the keys of variables, which stand from 0 on
pub plain_key : (t : List ℕ) (j : ℕ) → key_at t 0 3 j ≡ number_key t j
plain_key t j = ap (λ i. get_or t i 0) (add-zero (3 * j))

pub plain_keys : (t : List ℕ) (n : ℕ) → Ascends (number_key t) n → Ascends (key_at t 0 3) n
plain_keys t n a = ascends_same (number_key t) (key_at t 0 3) n a λ j l. plain_key t j

-- ---- whether a row may follow, as the code tests it

above_next : (keys : ℕ → ℕ) (n k : ℕ) → (n ≡ 0 → ⊥) → ltb (keys (n - 1)) k ≡ above keys n k
unfolding above
above_next keys zero k h = absurd (h refl)
above_next keys (suc n) k h = let e : suc n - 1 ≡ n = omega arith in rw e

module _ (t : List ℕ) (n : Counts) (k : ℕ) where
  pub after_cells : 0 < n.cells → false ≡ variable_may t n k
  after_cells h = sym (rw (ne_eqb n.cells 0 λ q. omega arith))

  pub after_rows : n.cells ≤ 0 → 0 < n.functions → false ≡ variable_may t n k
  after_rows c h = sym (rw (eq-eqb n.cells 0 (omega arith), ne_eqb n.functions 0 λ q. omega arith))

  pub first_variable : n.cells ≤ 0 → n.functions ≤ 0 → n.variables ≡ 0 → true ≡ variable_may t n k
  unfolding above
  first_variable c f e = sym (rw (eq-eqb n.cells 0 (omega arith), eq-eqb n.functions 0 (omega arith), e))

  pub next_variable : n.cells ≤ 0 → n.functions ≤ 0 → (n.variables ≡ 0 → ⊥) → ltb (get_or t (3 * (n.variables - 1)) 0) k ≡ variable_may t n k
  next_variable c f e = rw (eq-eqb n.cells 0 (omega arith), eq-eqb n.functions 0 (omega arith)) (above_next (number_key t) n.variables k e)

  pub cells_after_rows : 0 < n.functions → false ≡ cell_may t n k
  cells_after_rows h = sym (rw (ne_eqb n.functions 0 λ q. omega arith))

  pub first_cell : n.functions ≤ 0 → n.cells ≡ 0 → true ≡ cell_may t n k
  unfolding above
  first_cell f e = sym (rw (eq-eqb n.functions 0 (omega arith), e))

  pub next_cell : n.functions ≤ 0 → (n.cells ≡ 0 → ⊥) → ltb (get_or t (2 * (n.cells - 1) + cells_from) 0) k ≡ cell_may t n k
  next_cell f e = rw (eq-eqb n.functions 0 (omega arith)) (above_next (pair_key t) n.cells k e)
