-- When no pi is left: simplifying an expression whose depth is at most one above the limit gives one without pi, in any place. (Deeper ones can
-- keep a pi, and can become pi: calls/proofs/Examples.antt, `pi_comes_back`.) Assumes nothing.
use Prim.Native.Nat.{ℕ, zero, suc, ◌≤◌}
use native.Mathlib.Omega.{arith}
use Rattle.complex.specs.declared.Complex.{Complex}
use Rattle.complex.specs.Constants.{pi_number}
use Rattle.expression.specs.declared.InfixOperator.{InfixOperator}
use Rattle.expression.specs.declared.PrefixOperator.{PrefixOperator}
use Rattle.expression.specs.declared.ExpressionFunction.{ExpressionFunction}
use Rattle.expression.specs.Trees.{Tree, Leaf, number, pi, variable, cell, leaf, function_call, prefixed, infixed, depth}
use Rattle.expression.proofs.Sizes.{depth_positive}
use Rattle.store.specs.Storing.{State, Answer, gives, and_then}
use Rattle.sheet.specs.Rows.{Rows}
use Rattle.tasks.specs.Tasks.{leaf_task, task_at}
use Rattle.arms.specs.Arms.{function_plan, prefix_plan}
use Rattle.arms.specs.Ordered.{infix_plan}
use Rattle.simplification.specs.Simplifying.{Simplifier, carry_out, simplify_function_call, simplify_prefix, simplify_infix, perform, simplify_by, simplify}
use Rattle.simplification.proofs.Shapes.{Closed, fine_infix, fine_function, fine_prefix}
use Rattle.simplification.proofs.Inherited.{KeptAll, Gives, then_gives, stores, carries, steps, Leaves, leaves_closed, simplify_leaves}

-- no leaf is pi
abbrev pub NotPi : Leaf → Type 0
NotPi (number z) = Unit {0}
NotPi pi = ⊥
NotPi (variable v) = Unit {0}
NotPi (cell region index) = Unit {0}

abbrev pub Piless : Tree → Type 0
Piless = Leaves NotPi

numeral : (z : Complex) → Piless (leaf (number z))
numeral z = tt

piless : Closed Piless Piless
piless = leaves_closed NotPi numeral

-- nor in any result that is kept; and none in what is given
abbrev pub Clean : State → Type 0
Clean = KeptAll Piless

abbrev pub Good : Answer → Type 0
Good = Gives Piless

-- without pi, or so shallow that every leaf is reached
pub data Ready (k : ℕ) (t : Tree) : Type 0 where
  pure : Piless t → Ready k t
  shallow : depth t ≤ suc k → Ready k t

Simplifies : Simplifier → ℕ → Type 0
Simplifies σ k = (t : Tree) (s : State) → Ready k t → Clean s → Good (σ t s)

-- the operands, at 1 less
call_operand : {k : ℕ} {f : ExpressionFunction} {t : Tree} → Ready (suc k) (function_call f t) → Ready k t
unfolding depth
call_operand (pure x) = pure x
call_operand (shallow l) = shallow (omega (arith, l))

prefix_operand : {k : ℕ} {o : PrefixOperator} {t : Tree} → Ready (suc k) (prefixed o t) → Ready k t
unfolding depth
prefix_operand (pure x) = pure x
prefix_operand (shallow l) = shallow (omega (arith, l))

left_operand : {k : ℕ} {o : InfixOperator} {t u : Tree} → Ready (suc k) (infixed o t u) → Ready k t
unfolding depth
left_operand (pure x) = pure x.0
left_operand (shallow l) = shallow (omega (arith, l))

right_operand : {k : ℕ} {o : InfixOperator} {t u : Tree} → Ready (suc k) (infixed o t u) → Ready k u
unfolding depth
right_operand (pure x) = pure x.1
right_operand (shallow l) = shallow (omega (arith, l))

-- at limit 0 an operation is given as it is; only one without pi is ready for that
as_it_is : {t : Tree} → Ready 0 t → (depth t ≤ 1 → ⊥) → Piless t
as_it_is (pure x) n = x
as_it_is (shallow l) n = absurd (n l)

module _ (R : Rows) (b f : Simplifier) where
  performs_leaf : (l : Leaf) (s : State) → Clean s → Good (perform R b f (leaf_task l) s)
  unfolding perform leaf_task Gives
  performs_leaf (number z) s c = (tt, c)
  performs_leaf pi s c = stores Piless piless numeral (leaf (number pi_number)) s tt c
  performs_leaf (variable v) s c = (tt, c)
  performs_leaf (cell region index) s c = (tt, c)

  performs_none : (t : Tree) (s : State) → Ready 0 t → Clean s → Good (perform R b f (task_at 0 t) s)
  unfolding perform task_at Gives depth
  performs_none (leaf l) s r c = performs_leaf l s c
  performs_none (function_call g t) s r c = (as_it_is r (λ l. omega (arith, l, depth_positive t)), c)
  performs_none (prefixed o t) s r c = (as_it_is r (λ l. omega (arith, l, depth_positive t)), c)
  performs_none (infixed o t u) s r c = (as_it_is r (λ l. omega (arith, l, depth_positive t)), c)

  performs : (k : ℕ) → Simplifies b k → ((t : Tree) (s : State) → Piless t → Clean s → Good (f t s))
      → (t : Tree) (s : State) → Ready (suc k) t → Clean s → Good (perform R b f (task_at (suc k) t) s)
  unfolding perform task_at simplify_function_call simplify_prefix simplify_infix Simplifies
  performs k hb hf (leaf l) s r c = performs_leaf l s c
  performs k hb hf (function_call g t) s r c =
      then_gives Piless piless numeral (b t s) (λ x s. carry_out R f (function_plan g x) s) (hb t s (call_operand r) c) λ x s' y d.
      carries Piless piless numeral suc R f hf (function_plan g x) s' (fine_function Piless Piless piless g x y).over d
  performs k hb hf (prefixed o t) s r c =
      then_gives Piless piless numeral (b t s) (λ x s. carry_out R f (prefix_plan o x) s) (hb t s (prefix_operand r) c) λ x s' y d.
      carries Piless piless numeral suc R f hf (prefix_plan o x) s' (fine_prefix Piless Piless piless o x y).over d
  performs k hb hf (infixed o t u) s r c =
      then_gives Piless piless numeral (b t s) (λ x s. and_then (b u s) λ z s. carry_out R f (infix_plan o x z) s) (hb t s (left_operand r) c) λ x s' y d.
      then_gives Piless piless numeral (b u s') (λ z s. carry_out R f (infix_plan o x z) s) (hb u s' (right_operand r) d) λ z s'' w e.
      carries Piless piless numeral suc R f hf (infix_plan o x z) s'' (fine_infix Piless Piless piless o x z y w).over e

simplifies : (R : Rows) (k : ℕ) → Simplifies (simplify R k) k
unfolding simplify_by Simplifies
simplifies R zero t s r c = steps Piless piless numeral suc R gives gives 0 t s c λ s d. performs_none R gives gives t s r d
simplifies R (suc zero) t s r c =
    steps Piless piless numeral suc R (simplify R 0) (simplify R 0) 1 t s c λ s d.
    performs R (simplify R 0) (simplify R 0) 0 (simplifies R zero) (λ t s x c. simplifies R zero t s (pure x) c) t s r d
simplifies R (suc (suc k)) t s r c =
    steps Piless piless numeral suc R (simplify R (suc k)) (simplify R k) (suc (suc k)) t s c λ s d.
    performs R (simplify R (suc k)) (simplify R k) (suc k) (simplifies R (suc k)) (λ t s x c. simplifies R k t s (pure x) c) t s r d

-- "Invariant: Never returns [`Expression::PiConstant`].", where it holds
pub never_pi : (R : Rows) (limit : ℕ) (t : Tree) (s : State) → depth t ≤ suc limit → Clean s → Good (simplify R limit t s)
unfolding Simplifies
never_pi R limit t s l c = simplifies R limit t s (shallow l) c

-- also where the expression has no pi, however deep
pub never_new_pi : (R : Rows) (limit : ℕ) (t : Tree) (s : State) → Piless t → Clean s → Good (simplify R limit t s)
never_new_pi = simplify_leaves NotPi numeral
