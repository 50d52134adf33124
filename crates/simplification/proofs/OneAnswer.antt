-- Two answers that the contract of `simplify` allows are one, with one count of calls, where rows and desk hold a store and the table a sheet; so of
-- all functions of its cycle. Assumes nothing.
use mathlib.Core.Path.{◌≡◌}
use mathlib.Core.List.{List}
use Prim.Native.Nat.{ℕ, ◌<◌}
use Rattle.std.specs.Prelude.{Result}
use Rattle.store.specs.Storing.{State, Answer}
use Rattle.store.specs.declared.desk.Refused.{Refused}
use Rattle.store.specs.Desk.{count}
use Rattle.store.specs.Held.{Lent, tree_in, Sound}
use Rattle.store.proofs.Stored.{OneAnswer, one_answer}
use Rattle.store.proofs.OneAnswer.{Same, one_word}
use Rattle.sheet.specs.declared.Counts.{Counts}
use Rattle.sheet.specs.Rows.{Rows}
use Rattle.sheet.specs.Table.{Held}
use Rattle.tasks.specs.Deciding.{one_more}
use Rattle.simplification.specs.Simplifying.{simplify_by}
use Rattle.simplification.specs.Run.{BuildsBy, Simplifies}

-- the calls are part of the state, which is one
pub one_built : {table : List ℕ} {rows : Counts} (Of : Lent → Type 0) (want : Rows → Lent → State → Answer) {l l₁ l₂ : Lent} (r r' : Result ℕ Refused)
    → Held table rows → Sound l → Of l → BuildsBy table rows Of want r l l₁ → BuildsBy table rows Of want r' l l₂ → OneAnswer r r' l₁ l₂
one_built Of want r r' t s o p q = one_answer r r' (p t s o) (q t s o)

pub one_simplified : (limit : ℕ) {table : List ℕ} {rows : Counts} {node : ℕ} {l l₁ l₂ : Lent} (r r' : Result ℕ Refused) → Held table rows → Sound l → node < count l.desk
    → Simplifies limit table rows node r l l₁ → Simplifies limit table rows node r' l l₂ → OneAnswer r r' l₁ l₂
one_simplified limit {node = node} = one_built (λ l. node < count l.desk) (λ R l. simplify_by one_more R limit (tree_in l node))

-- ---- so the answer itself is one: the node, or that there is none, and why

pub one_node : (limit : ℕ) {table : List ℕ} {rows : Counts} {node : ℕ} {l l₁ l₂ : Lent} (r r' : Result ℕ Refused) → Held table rows → Sound l → node < count l.desk
    → Simplifies limit table rows node r l l₁ → Simplifies limit table rows node r' l l₂ → Same r r' l₁ l₂
one_node limit r r' t s i p q = one_word r r' (p t s i) (q t s i)
