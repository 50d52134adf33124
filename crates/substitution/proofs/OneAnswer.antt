-- Two answers that the contract of `substitute_variables` allows are one, where rows and desk hold a store and the table has s lines. Assumes nothing.
use mathlib.Core.List.{List}
use Prim.Native.Nat.{ℕ, ◌≤◌, ◌<◌}
use Rattle.std.specs.Prelude.{Result}
use Rattle.store.specs.declared.desk.Refused.{Refused}
use Rattle.store.specs.Desk.{count}
use Rattle.store.specs.Held.{Lent}
use Rattle.store.proofs.Stored.{OneAnswer, one_answer}
use Rattle.store.proofs.OneAnswer.{Same, one_word}
use Rattle.listing.specs.Tables.{Lists}
use Rattle.substitution.specs.Run.{Substitutes}

pub one_substituted : {table : List ℕ} {swaps node : ℕ} {l l₁ l₂ : Lent} (r r' : Result ℕ Refused) → swaps ≤ 256 → Lists l table 0 swaps → node < count l.desk
    → Substitutes table swaps node r l l₁ → Substitutes table swaps node r' l l₂ → OneAnswer r r' l₁ l₂
one_substituted r r' few t i p q = one_answer r r' (p few t i) (q few t i)

-- so the answer itself is one: the node, or that there is none, and why
pub one_node : {table : List ℕ} {swaps node : ℕ} {l l₁ l₂ : Lent} (r r' : Result ℕ Refused) → swaps ≤ 256 → Lists l table 0 swaps → node < count l.desk
    → Substitutes table swaps node r l l₁ → Substitutes table swaps node r' l l₂ → Same r r' l₁ l₂
one_node r r' few t i p q = one_word r r' (p few t i) (q few t i)
