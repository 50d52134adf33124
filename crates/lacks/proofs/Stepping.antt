-- What is named of a tape, step by step: each return of the functions of src/tapes. Assumes nothing.
use mathlib.Core.Path.{◌≡◌, refl, sym, ap, ◌∙◌}
use Prim.Native.Nat.{ℕ, ◌+◌, ◌*◌, ◌<◌, ◌≤◌}
use mathlib.Core.List.{List, map}
use lib.ListN.{drop, replicate}
use Rattle.std.specs.Prelude.{Option, Some, None, Ok, Err}
use Rattle.expression.specs.declared.refusal.Refusal.{Refusal}
use Rattle.text.specs.Lines as Lines
use Rattle.sheet.specs.declared.Counts.{Counts}
use Rattle.sheet.specs.Rows.{Rows, sheet}
use Rattle.sheet.specs.Table.{rows_of, Held}
use Rattle.steps.specs.declared.Step.{Step}
use Rattle.steps.specs.declared.Fields.{Fields}
use Rattle.steps.specs.Steps.{fields_in, step_of}
use Rattle.tape.specs.Tapes.{count, steps_in, check}
use Rattle.tape.proofs.Checking.{remaining, none_left, all_left}
use Rattle.tape.proofs.Stacks.{left_steps}
use Rattle.lacks.specs.declared.Missing.{Missing}
use Rattle.lacks.specs.Lacking.{or_else, missing_step, missing_in_steps, missing_under, missing_checked, missing_on_tape}
use Rattle.lacks.proofs.Naming.{is_first}

-- ---- the steps that are left name what the whole tape names

pub record Same (rows : Rows) (bs : List ℕ) (i : ℕ) : Type 0 where
  pub is : missing_in_steps rows (left_steps bs i) ≡ missing_in_steps rows (steps_in bs)

abbrev named_in : Rows → List Fields → Option Missing
named_in rows fs = missing_in_steps rows (map step_of fs)

pub same_begins : (rows : Rows) (bs : List ℕ) → Same rows bs 0
same_begins rows bs = record { is = ap (named_in rows) (all_left (count bs) bs) }

module _ {rows : Rows} {bs : List ℕ} {i : ℕ} (same : Same rows bs i) where
  module _ (l : i < count bs) {f : Fields} {s : Step} {w : Option Missing} (e : f ≡ fields_in (drop (24 * i) bs)) (t : s ≡ step_of f) (p : w ≡ missing_step rows s) where
    next_is : or_else w (missing_in_steps rows (left_steps bs (i + 1))) ≡ missing_in_steps rows (steps_in bs)
    unfolding missing_in_steps
    next_is =
        ap (λ m. or_else m (missing_in_steps rows (left_steps bs (i + 1)))) (p ∙ ap (missing_step rows) (t ∙ ap step_of e))
        ∙ sym (ap (named_in rows) (remaining (count bs) i bs l))
        ∙ same.is

    pub same_stops : {m : Missing} → w ≡ Some m → Some m ≡ missing_in_steps rows (steps_in bs)
    same_stops k = is_first _ refl k ∙ next_is

    pub same_goes : w ≡ None → Same rows bs (i + 1)
    unfolding or_else
    same_goes q = record { is = ap (λ m. or_else m (missing_in_steps rows (left_steps bs (i + 1)))) (sym q) ∙ next_is }

  pub same_ends : count bs ≤ i → None ≡ missing_in_steps rows (steps_in bs)
  unfolding missing_in_steps
  same_ends l = ap (named_in rows) (sym (none_left (count bs) i bs l)) ∙ same.is

-- ---- the tape, then the sheet

module _ (tape values : List ℕ) where
  pub unsound_nothing : {why : Refusal} → check tape ≡ Err why → None ≡ missing_on_tape tape values
  unfolding missing_checked
  unsound_nothing e = ap (λ c. missing_checked c tape values) (sym e)

  module _ (sound : check tape ≡ Ok tt) where
    under : missing_under tape (sheet values) ≡ missing_on_tape tape values
    unfolding missing_checked
    under = ap (λ c. missing_checked c tape values) (sym sound)

    pub unread_nothing : {why : Refusal} → Lines.refused why ≡ sheet values → None ≡ missing_on_tape tape values
    unfolding missing_under
    unread_nothing p = ap (missing_under tape) p ∙ under

    pub tape_names : {table : List ℕ} {rows : Counts} {r : Option Missing} → (Lines.read (rows_of table rows) ≡ sheet values) × Held table rows
        → (Held table rows → r ≡ missing_in_steps (rows_of table rows) (steps_in tape)) → r ≡ missing_on_tape tape values
    unfolding missing_under
    tape_names p q = q p.1 ∙ ap (missing_under tape) p.0 ∙ under

-- the answer, and the table that is left
pub tape_ends : {r want : Option Missing} {table : List ℕ} {n n' : ℕ} → r ≡ want → table ≡ replicate n' 0 → n' ≡ n → ◌≡◌ {A = Option Missing × List ℕ} (r, table) (want, replicate n 0)
tape_ends p q e = λ i. (p i, (q ∙ ap (λ n. replicate n 0) e) i)
