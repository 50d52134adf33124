-- Two answers that a contract of `lacks` allows are equal; of `first_missing` where the rows hold a store and the table holds a sheet. Assumes nothing.
use mathlib.Core.Path.{◌≡◌, sym, ◌∙◌}
use mathlib.Core.List.{List}
use Rattle.std.specs.Prelude.{Option}
use Prim.Native.Nat.{ℕ, ◌<◌}
use Rattle.store.specs.Memory.{Memory}
use Rattle.store.specs.Held.{Holds}
use Rattle.store.proofs.Settling.{ordered}
use Rattle.sheet.specs.declared.Counts.{Counts}
use Rattle.sheet.specs.Table.{Held}
use Rattle.calls.specs.Lent.{Work}
use Rattle.lacks.specs.declared.Missing.{Missing}
use Rattle.lacks.specs.Lacking.{NamesInJob, NamesOnTape}
use Rattle.lacks.specs.Run.{Names}

pub one_named : {m : Memory} {n : ℕ} → Holds m n → {table : List ℕ} {rows : Counts} {node below : ℕ} {m₁ m₂ : Memory} {r r' : Option Missing} → Held table rows → node < n → node < below
    → Names m m₁ table rows node below r → Names m m₂ table rows node below r' → r ≡ r'
one_named {n = n} h t l b p q = (p n (ordered h) l b t).answer ∙ sym (q n (ordered h) l b t).answer

pub one_named_in_job : (list values : List ℕ) (w : Work) {r r' : Option Missing} {w₁ w₂ : Work} → NamesInJob list values w r w₁ → NamesInJob list values w r' w₂
    → ◌≡◌ {A = Option Missing × Work} (r, w₁) (r', w₂)
one_named_in_job list values w p q = p ∙ sym q

pub one_named_on_tape : (tape values table : List ℕ) {r r' : Option Missing} {t₁ t₂ : List ℕ} → NamesOnTape tape values table r t₁ → NamesOnTape tape values table r' t₂
    → ◌≡◌ {A = Option Missing × List ℕ} (r, t₁) (r', t₂)
one_named_on_tape tape values table p q = p ∙ sym q
