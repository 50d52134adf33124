-- Two answers that a contract of `evaluation` allows are equal, where the rows hold a store and the table holds a sheet. Assumes nothing.
use mathlib.Core.Path.{◌≡◌, sym, ◌∙◌}
use mathlib.Core.List.{List}
use Prim.Native.Nat.{ℕ, ◌<◌}
use Rattle.std.specs.Prelude.{Float, Result}
use Rattle.expression.specs.declared.refusal.Refusal.{Refusal}
use Rattle.store.specs.Memory.{Memory}
use Rattle.store.specs.Held.{Holds}
use Rattle.store.proofs.Settling.{ordered}
use Rattle.sheet.specs.declared.Counts.{Counts}
use Rattle.sheet.specs.Rows.{Rows}
use Rattle.sheet.specs.Table.{rows_of, Held, used_in}
use Rattle.evaluation.specs.declared.Evaluation.{Evaluation}
use Rattle.evaluation.specs.declared.Asked.{Asked}
use Rattle.evaluation.specs.Run.{Answers, Evaluates, ReadsReal}

module _ {m : Memory} {n : ℕ} (h : Holds m n) where
  pub one_evaluated : {table : List ℕ} {rows : Counts} {node below : ℕ} {r r' : Evaluation} {marks marks₁ marks₂ : List ℕ} → Held table rows → node < n → node < below
      → Evaluates m table rows node below r marks marks₁ → Evaluates m table rows node below r' marks marks₂ → ◌≡◌ {A = Evaluation × List ℕ} (r, marks₁) (r', marks₂)
  one_evaluated t l b p q =
      let x = p n (ordered h) l b t in
      let y = q n (ordered h) l b t in
      λ i. ((x.value ∙ sym y.value) i, (x.marked ∙ sym y.marked) i)

  pub one_real : {node : ℕ} {r r' : Result Float Refusal} → node < n → ReadsReal m node r → ReadsReal m node r' → r ≡ r'
  one_real l p q = p n h l ∙ sym (q n h l)

-- what is worked out under a sheet, and the rows that were used: `calculate_function`, `calculate_infix`. Of two rows the first
-- is the first that is used
pub one_calculated : {table : List ℕ} {rows : Counts} (value : Rows → Evaluation) (used : Rows → List ℕ) (r r' : Asked) → Held table rows
    → (Held table rows → Answers (value (rows_of table rows)) (used (rows_of table rows)) r) → (Held table rows → Answers (value (rows_of table rows)) (used (rows_of table rows)) r')
    → (r.value ≡ r'.value) × (used_in r.used ≡ used_in r'.used)
one_calculated value used r r' t p q = ((p t).0 ∙ sym (q t).0, (p t).1 ∙ sym (q t).1)
