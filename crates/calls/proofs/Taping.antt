-- What the steps of the calls on tapes make together. Assumes nothing.
use mathlib.Core.Path.{◌≡◌, sym, ap, ◌∙◌}
use Prim.Native.Nat.{ℕ, min}
use mathlib.Core.List.{List}
use mathlib.Core.Bool.{false}
use lib.ListN.{length, replicate}
use Rattle.std.specs.Prelude.{Result, Ok, Err}
use Rattle.complex.specs.declared.Complex.{Complex}
use Rattle.memory.specs.Marks.{no_marks, noted}
use Rattle.expression.specs.declared.refusal.Refusal.{Refusal}
use Rattle.store.specs.Held.{Lent, lent, tree_in}
use Rattle.listing.specs.declared.Listed.{Listed}
use Rattle.listing.specs.Tables.{Reads}
use Rattle.sheet.specs.declared.Counts.{Counts}
use Rattle.sheet.specs.Rows.{sheet}
use Rattle.sheet.specs.Table.{rows_of, Held, seen, held_by}
use Rattle.evaluation.specs.declared.Evaluation.{Evaluation}
use Rattle.tape.specs.Tapes.{compiled, check}
use Rattle.tape.specs.Using.{used_playing}
use Rattle.tape.specs.Run as Tape
use Rattle.calls.specs.Calls.{evaluated, compile_call, play_sheet, play_checked, play_call}
use Rattle.calls.specs.Marks.{play_sheet_marks, play_checked_marks, play_marks}
use Rattle.calls.proofs.Framing.{in_room, after_read, after_refused}

-- ---- compiling

module _ (store : List (List ℕ)) {desk list : List ℕ} (out : List ℕ) {listed : Result Listed Refusal} {l₁ : Lent} {table : List ℕ} (p : Reads false list listed (lent store desk) l₁ table) where
  pub compiles_read : {a : Listed} {r : Result ℕ Refusal} {out' : List ℕ} → listed ≡ Ok a
      → ◌≡◌ {A = Result ℕ Refusal × List ℕ} (r, out') (compiled (tree_in l₁ a.root) out) → ◌≡◌ {A = Result ℕ Refusal × List ℕ} (r, out') (compile_call (min (length store) 4096) list out)
  unfolding compile_call
  compiles_read told q =
      in_room store (λ n. compile_call n list out) (q ∙ after_read p (λ why. (Err why, out)) (λ root swaps store. compiled root out) told)

  pub compiles_refused : {why : Refusal} → listed ≡ Err why → ◌≡◌ {A = Result ℕ Refusal × List ℕ} (Err why, out) (compile_call (min (length store) 4096) list out)
  unfolding compile_call
  compiles_refused told = in_room store (λ n. compile_call n list out) (after_refused p (λ why. (Err why, out)) (λ root swaps store. compiled root out) told)

-- ---- playing: the answer, and the marks where nothing was marked before

module _ (tape values table : List ℕ) (found : Result Counts Refusal) (s : (seen table found ≡ sheet values) × held_by table found) where
  pub plays_read : {rows : Counts} {v : Evaluation} {r : Result Complex Refusal} {marks marks' : List ℕ} → found ≡ Ok rows
      → (Held table rows → Tape.Plays (rows_of table rows) tape v marks marks') → r ≡ evaluated v → marks ≡ no_marks
      → ◌≡◌ {A = Result Complex Refusal × List ℕ} (r, marks') (play_sheet tape (sheet values), play_sheet_marks tape (sheet values))
  unfolding play_sheet play_sheet_marks
  plays_read {rows = rows} told q e z =
      let p = q (rw told at s.1) in
      (λ i. ((e ∙ ap evaluated p.value) i, (p.marked ∙ ap (noted (used_playing (rows_of table rows) tape)) z) i)) ∙ ap (λ x. (play_sheet tape x, play_sheet_marks tape x)) (rw told at s.0)

  pub plays_refused : {why : Refusal} {marks : List ℕ} → found ≡ Err why → marks ≡ no_marks
      → ◌≡◌ {A = Result Complex Refusal × List ℕ} (Err why, marks) (play_sheet tape (sheet values), play_sheet_marks tape (sheet values))
  unfolding play_sheet play_sheet_marks
  plays_refused {why = why} told z = (λ i. (Err why, z i)) ∙ ap (λ x. (play_sheet tape x, play_sheet_marks tape x)) (rw told at s.0)

pub plays_sound : (tape values : List ℕ) {r : Result Complex Refusal × List ℕ} → check tape ≡ Ok tt → r ≡ (play_sheet tape (sheet values), play_sheet_marks tape (sheet values)) → r ≡ (play_call tape values, play_marks tape values)
unfolding play_checked play_checked_marks
plays_sound tape values e p = p ∙ ap (λ c. (play_checked c tape values, play_checked_marks c tape values)) (sym e)

pub plays_bad : (tape values : List ℕ) {why : Refusal} {marks : List ℕ} → check tape ≡ Err why → marks ≡ no_marks
    → ◌≡◌ {A = Result Complex Refusal × List ℕ} (Err why, marks) (play_call tape values, play_marks tape values)
unfolding play_checked play_checked_marks
plays_bad tape values {why} e z = (λ i. (Err why, z i)) ∙ ap (λ c. (play_checked c tape values, play_checked_marks c tape values)) (sym e)

pub plays_ends : {r want : Result Complex Refusal × List ℕ} {table : List ℕ} {n n' : ℕ} → r ≡ want → table ≡ replicate n' 0 → n' ≡ n → ◌≡◌ {A = (Result Complex Refusal × List ℕ) × List ℕ} (r, table) (want, replicate n 0)
plays_ends p q e = λ i. (p i, (q ∙ ap (λ n. replicate n 0) e) i)
