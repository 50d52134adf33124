-- Simplifying an infix operation follows 01's list of arms: what the definition gives where nothing is kept. Assumes nothing.
use mathlib.Core.Path.{◌≡◌, ◌∙◌}
use Prim.Native.Nat.{ℕ, suc, ◌-◌}
use native.Mathlib.Omega.{arith}
use Rattle.expression.specs.declared.InfixOperator.{InfixOperator}
use Rattle.expression.specs.Trees.{Tree, infixed}
use Rattle.store.specs.Storing.{nothing, State, and_then, recall}
use Rattle.sheet.specs.Rows.{Rows}
use Rattle.tasks.specs.Tasks.{task_at}
use Rattle.arms.specs.Arms.{Plan}
use Rattle.arms.specs.Ordered.{arms, first_match}
use Rattle.arms.proofs.Ordered.{any_unmatched}
use Rattle.simplification.specs.Simplifying.{counted, keeping, carry_out, simplify_infix, perform, resume, step, simplify}
use Rattle.simplification.proofs.Operating.{unrolled}

one_less : (k : ℕ) → suc k - 1 ≡ k
one_less k = omega arith

-- The call is counted; the operands are simplified at 1 less, left before right; the first match in the list is carried out, and its S simplifies
-- at 1 less again; what comes out is kept.
pub ordered : (rows : Rows) (k : ℕ) (op : InfixOperator) (l r : Tree) (s : State) (unmatched : Plan) → recall (infixed op l r) s ≡ nothing
    → simplify rows (suc k) (infixed op l r) s
    ≡ keeping (infixed op l r) (and_then (simplify rows k l (counted suc s)) λ x s. and_then (simplify rows k r s) λ y s.
    carry_out rows (simplify rows (k - 1)) (first_match unmatched (arms op x y)) s)
unfolding step resume perform task_at simplify_infix
ordered rows k op l r s unmatched new =
    unrolled suc rows (suc k) (infixed op l r) s
    ∙ (λ i. step suc rows (simplify rows (one_less k i)) (simplify rows (one_less k i - 1)) (suc k) (infixed op l r) s)
    ∙ (λ i. resume rows (simplify rows k) (simplify rows (k - 1)) (new i) (suc k) (infixed op l r) (counted suc s))
    ∙ (λ i. keeping (infixed op l r) (and_then (simplify rows k l (counted suc s)) λ x s. and_then (simplify rows k r s) λ y s.
    carry_out rows (simplify rows (k - 1)) (any_unmatched op x y unmatched i) s))
