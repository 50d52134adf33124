-- 01's "Simplifying", on trees: what simplifying a tree at a limit gives, in a store, and how it counts. Definitions only.
use Rattle.std.specs.Prelude.{ℕ, zero, suc}
use Rattle.complex.specs.Constants.{pi_number}
use Rattle.expression.specs.declared.InfixOperator.{InfixOperator}
use Rattle.expression.specs.declared.PrefixOperator.{PrefixOperator}
use Rattle.expression.specs.declared.ExpressionFunction.{ExpressionFunction}
use Rattle.expression.specs.declared.refusal.Refusal.{Refusal}
use Rattle.expression.specs.Trees.{Tree, number, leaf, infixed}
use Rattle.store.specs.Storing.{Kept, nothing, result, State, state, Answer, gives, refused, and_then, intern, recall, keep, noting}
use Rattle.sheet.specs.Rows.{Rows}
use Rattle.evaluation.specs.declared.Evaluation.{Evaluation}
use Rattle.evaluation.specs.Evaluating.{calculate_function, calculate_infix}
use Rattle.evaluation.specs.Using.{used_by_function, used_by_infix}
use Rattle.tasks.specs.Tasks.{Task, number_of_pi, itself, calling, prefixing, infixing, task_at}
use Rattle.arms.specs.Arms.{Plan, the, new, folded, called, negation, combined, S, lesser, affine, smaller, minus, sum, product, function_plan, prefix_plan}
use Rattle.arms.specs.Ordered.{infix_plan}

abbrev pub Simplifier : Type 0
Simplifier = Tree → State → Answer

-- one more simplify call, as `more` counts
unfoldable pub counted : (more : ℕ → ℕ) → State → State
counted more (state room stored kept tally) = state room stored kept (record { calls = more tally.calls; marks = tally.marks })

-- NEED before the folded number is stored; no operation on numbers is incomplete
unfoldable pub folded_to : Evaluation → State → Answer
folded_to (Evaluation.Value z) s = intern (leaf (number z)) s
folded_to Evaluation.Incomplete s = refused Refusal.Incomplete s
folded_to (Evaluation.Need operation x y) s = refused (Refusal.Need operation x y) s

-- "each node just before its own S call"
unfoldable pub again : Simplifier → Simplifier
again simplified t s = and_then (intern t s) simplified

-- "Results are cached on return"; "a later return for an equal node replaces an earlier one"
unfoldable pub keeping : Tree → Answer → Answer
keeping t answer = and_then answer λ u s. gives u (keep t u s)

module _ (rows : Rows) where
  -- A plan carried out, where `simplified` is what S stands for: from left to right, operands before their node. The rows that a fold finds are
  -- marked, also where one is lacking
  unfoldable pub carry_out : (simplified : Simplifier) → Plan → State → Answer
  carry_out simplified (the t) s = gives t s
  carry_out simplified (new t) s = intern t s
  carry_out simplified (folded op x y) s = folded_to (calculate_infix rows op x y) (noting (used_by_infix rows op x y) s)
  carry_out simplified (called f x) s = folded_to (calculate_function rows f x) (noting (used_by_function rows f x) s)
  carry_out simplified (negation p) s = and_then (carry_out simplified p s) λ t s. intern (minus t) s
  carry_out simplified (combined op p q) s = and_then (carry_out simplified p s) λ t s. and_then (carry_out simplified q s) λ u s. intern (infixed op t u) s
  carry_out simplified (S p) s = and_then (carry_out simplified p s) simplified
  carry_out simplified (lesser p q) s = and_then (carry_out simplified p s) λ t s. and_then (carry_out simplified q s) λ u s. gives (smaller t u) s
  carry_out simplified (affine a x b) s =
      and_then (again simplified a s) λ sum-as s.
      and_then (again simplified b s) λ sum-bs s.
      and_then (again simplified (product sum-as x) s) λ mul-as-x s.
      again simplified (sum mul-as-x sum-bs) s

  -- An operation: `below` simplifies its operands, at 1 less, "children first, left before right"; "its further S calls run at 1 less again"
  module _ (below further : Simplifier) where
    unfoldable pub simplify_function_call : ExpressionFunction → Tree → State → Answer
    simplify_function_call f t s = and_then (below t s) λ x s. carry_out further (function_plan f x) s

    unfoldable pub simplify_prefix : PrefixOperator → Tree → State → Answer
    simplify_prefix o t s = and_then (below t s) λ x s. carry_out further (prefix_plan o x) s

    unfoldable pub simplify_infix : InfixOperator → Tree → Tree → State → Answer
    simplify_infix o l r s = and_then (below l s) λ x s. and_then (below r s) λ y s. carry_out further (infix_plan o x y) s

    unfoldable pub perform : Task → State → Answer
    perform number_of_pi s = intern (leaf (number pi_number)) s
    perform (itself t) s = gives t s
    perform (calling f t) s = simplify_function_call f t s
    perform (prefixing o t) s = simplify_prefix o t s
    perform (infixing o l r) s = simplify_infix o l r s

    -- "a cached equal node gives its cached result, whatever limit it was made at"
    unfoldable pub resume : Kept → (limit : ℕ) → Tree → State → Answer
    resume (result u) limit t s = gives u s
    resume nothing limit t s = keeping t (perform (task_at limit t) s)

-- `more` is how a call is counted
module _ (more : ℕ → ℕ) (rows : Rows) where
  unfoldable pub step : (below further : Simplifier) (limit : ℕ) → Tree → State → Answer
  step below further limit t s = resume rows below further (recall t s) limit t (counted more s)

  -- S at a limit; "subtraction stops at 0". At limit 0 nothing is simplified further
  unfoldable pub simplify_by : (limit : ℕ) → Tree → State → Answer
  simplify_by zero t s = step gives gives 0 t s
  simplify_by (suc zero) t s = step (simplify_by zero) (simplify_by zero) 1 t s
  simplify_by (suc (suc k)) t s = step (simplify_by (suc k)) (simplify_by k) (suc (suc k)) t s

-- "The answer carries the number of simplify calls made, cache hits counted": counted without end. (A machine's count has an end, which it
-- never comes near: proofs/Machine.antt.)
abbrev pub simplify : Rows → (limit : ℕ) → Simplifier
simplify = simplify_by suc
