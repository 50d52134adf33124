-- Two answers that a contract of `tape` allows are equal: of compiling and playing where the rows hold a store and the table a sheet, of the others
-- always. The check and the bytes of the pick are in Checking. Assumes nothing.
use mathlib.Core.Path.{◌≡◌, refl, sym, ap, ◌∙◌}
use mathlib.Core.List.{List}
use Prim.Native.Nat.{ℕ, ◌<◌}
use denote.Ref.{Bor}
use Rattle.std.specs.Prelude.{Result}
use Rattle.expression.specs.declared.refusal.Refusal.{Refusal}
use Rattle.store.specs.Memory.{Memory}
use Rattle.store.specs.Held.{Holds}
use Rattle.sheet.specs.declared.Counts.{Counts}
use Rattle.sheet.specs.Table.{rows_of, Held}
use Rattle.evaluation.specs.declared.Evaluation.{Evaluation}
use Rattle.tape.specs.declared.Picked.{Picked}
use Rattle.tape.specs.Tapes.{picked, Own}
use Rattle.tape.specs.Run.{Compiles, Plays}

-- answer and output bytes
pub one_compiled : {m : Memory} {root nodes : ℕ} {r r' : Result ℕ Refusal} (out : List ℕ) {out₁ out₂ : List ℕ} → Holds m nodes → root < nodes
    → Compiles m root nodes r out out₁ → Compiles m root nodes r' out out₂ → ◌≡◌ {A = Result ℕ Refusal × List ℕ} (r, out₁) (r', out₂)
one_compiled out h l p q = p h l ∙ sym (q h l)

pub one_played : (tape : List ℕ) {table : List ℕ} {rows : Counts} {r r' : Evaluation} {marks marks₁ marks₂ : List ℕ} → Held table rows
    → (Held table rows → Plays (rows_of table rows) tape r marks marks₁) → (Held table rows → Plays (rows_of table rows) tape r' marks marks₂)
    → ◌≡◌ {A = Evaluation × List ℕ} (r, marks₁) (r', marks₂)
one_played tape t p q = λ i. (((p t).value ∙ sym (q t).value) i, ((p t).marked ∙ sym (q t).marked) i)

pub one_which : (a b : List ℕ) {r r' : Picked} → r ≡ picked a b → r' ≡ picked a b → r ≡ r'
one_which a b p q = p ∙ sym q

-- ---- the slice that `pick` hands back, and not its bytes alone: the clause `own`, where `which` is the choice

-- where a tape is sound it is that very slice
pub one_slice : (which : Picked) {a b r r' : Bor (List ℕ)} → (which ≡ Picked.Nothing → ⊥) → Own which a b r → Own which a b r' → r ≡ r'
one_slice Picked.First some p q = p.0 refl ∙ sym (q.0 refl)
one_slice Picked.Second some p q = p.1 refl ∙ sym (q.1 refl)
one_slice Picked.Nothing some p q = absurd (some refl)

-- and where it begins is one always; with its bytes (Checking, `one_picked`) this is all that a program sees of a slice
pub one_pointer : (which : Picked) {a b r r' : Bor (List ℕ)} → Own which a b r → Own which a b r' → r.ref_ptr ≡ r'.ref_ptr
one_pointer Picked.First p q = ap (λ x. x.ref_ptr) (p.0 refl ∙ sym (q.0 refl))
one_pointer Picked.Second p q = ap (λ x. x.ref_ptr) (p.1 refl ∙ sym (q.1 refl))
one_pointer Picked.Nothing p q = p.2 refl ∙ sym (q.2 refl)
