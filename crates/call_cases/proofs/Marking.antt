-- The marks in a digit, and the steps of the loop that compares the marks of all rows with a line of digits. Assumes nothing.
use mathlib.Core.Path.{◌≡◌, refl, sym, ap, ◌∙◌}
use Prim.Native.Nat.{ℕ, ◌+◌, ◌/◌, ◌%◌, ◌≤◌, ◌<◌}
use mathlib.Core.Bool.{true, false}
use mathlib.Core.List.{List}
use native.Mathlib.Omega.{arith}
use lib.ListN.{get_or}
use lib.Dec.{eqb}
use borrow.Author.Tests.{eq-eqb, ne_eqb}
use Rattle.replay.specs.Judges.{every, digit_of}
use Rattle.replay.proofs.Judging.{one_more_lem, fails, fewer, second_no}
use Rattle.call_cases.specs.Judging.{mark_in, marked_at, marked_by}

module _ (digit row : ℕ) where
  pub mark_first : row % 4 ≡ 0 → digit / 8 % 2 ≡ mark_in digit row
  mark_first e = rw e refl

  pub mark_second : row % 4 ≡ 1 → digit / 4 % 2 ≡ mark_in digit row
  mark_second e = rw e refl

  pub mark_third : row % 4 ≡ 2 → digit / 2 % 2 ≡ mark_in digit row
  mark_third e = rw e refl

  pub mark_fourth : (row % 4 ≡ 0 → ⊥) → (row % 4 ≡ 1 → ⊥) → (row % 4 ≡ 2 → ⊥) → digit % 2 ≡ mark_in digit row
  mark_fourth a b c =
      let e : row % 4 ≡ 3 = omega (arith, a, b, c) in
      let d : digit ≡ digit / 1 = omega arith in
      rw e (ap (λ x. x % 2) d)

module _ (line marks : List ℕ) where
  pub no_line : (get_or line 64 0 ≡ 10 → ⊥) → false ≡ marked_by line marks
  no_line f = rw (ne_eqb (get_or line 64 0) 10 f) refl

  module _ (row digit mark : ℕ) (e : digit ≡ digit_of (get_or line (row / 4) 0)) (f : mark ≡ mark_in digit row) where
    wanted : mark ≡ mark_in (digit_of (get_or line (row / 4) 0)) row
    wanted = f ∙ ap (λ x. mark_in x row) e

    pub row_more : every (marked_at line marks) row ≡ true → get_or marks row 0 ≡ mark → every (marked_at line marks) (row + 1) ≡ true
    row_more h t = one_more_lem (marked_at line marks) row h (eq-eqb (get_or marks row 0) (mark_in (digit_of (get_or line (row / 4) 0)) row) (t ∙ wanted))

    pub row_no : row < 256 → (get_or marks row 0 ≡ mark → ⊥) → false ≡ marked_by line marks
    row_no l t =
        let n = ne_eqb (get_or marks row 0) (mark_in (digit_of (get_or line (row / 4) 0)) row) λ q. t (q ∙ sym wanted) in
        second_no (eqb (get_or line 64 0) 10) (every (marked_at line marks) 256) (sym (fails (marked_at line marks) 256 row l n)) refl

  pub rows_yes : (row : ℕ) → 256 ≤ row → get_or line 64 0 ≡ 10 → every (marked_at line marks) row ≡ true → true ≡ marked_by line marks
  rows_yes row l q h = rw (eq-eqb (get_or line 64 0) 10 q) (sym (fewer (marked_at line marks) row 256 l h))
