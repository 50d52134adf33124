-- What reading as a real gives at a node, by its kind: each return of `to_real` and `real_part`. Assumes nothing.
use mathlib.Core.Path.{◌≡◌, refl, ap, ◌∙◌}
use mathlib.Core.Bool.{true, false}
use Prim.Native.Nat.{ℕ, ◌<◌}
use lib.Ieee.{lt, neg}
use Rattle.std.specs.Prelude.{Float, Result, Ok, Err}
use Rattle.complex.specs.declared.Complex.{Complex}
use Rattle.complex.specs.Constants.{pi_number}
use Rattle.expression.specs.declared.refusal.Refusal.{Refusal}
use Rattle.expression.specs.declared.InfixOperator.{InfixOperator}
use Rattle.expression.specs.declared.PrefixOperator.{PrefixOperator}
use Rattle.expression.specs.declared.ExpressionFunction.{ExpressionFunction}
use Rattle.expression.specs.declared.node.Expression.{Expression}
use Rattle.expression.specs.Nodes.{grown}
use Rattle.store.specs.Memory.{Memory, expression_at, tree_at, tree_of}
use Rattle.store.specs.Held.{Holds}
use Rattle.evaluation.specs.Reals.{tiny, real_part, to_real}
use Rattle.store.proofs.Stored.{tree_of_node}

module _ (z : Complex) where
  pub both_sides : lt (neg tiny) z.im ≡ true → lt z.im tiny ≡ true → Ok z.re ≡ real_part z
  unfolding real_part
  both_sides p q = rw (p, q)

  pub not_below : lt (neg tiny) z.im ≡ true → lt z.im tiny ≡ false → Err Refusal.NotReal ≡ real_part z
  unfolding real_part
  not_below p q = rw (p, q)

  pub not_above : lt (neg tiny) z.im ≡ false → Err Refusal.NotReal ≡ real_part z
  unfolding real_part
  not_above p = rw p

module _ {m : Memory} {n node : ℕ} (h : Holds m n) (l : node < n) {e : Expression} (e-is : e ≡ expression_at m node) where
  module _ {e' : Expression} (told : e ≡ e') where
    of_node : {r : Result Float Refusal} → r ≡ to_real (tree_of m e') → r ≡ to_real (tree_at m node)
    of_node p = p ∙ ap to_real (tree_of_node h l e-is told)

  pub pi_real : {z : Complex} → e ≡ Expression.PiConstant → z ≡ pi_number → Ok z.re ≡ to_real (tree_at m node)
  unfolding to_real grown
  pi_real told p = of_node told (ap (λ z. Ok z.re) p)

  pub number_real : {z : Complex} {r : Result Float Refusal} → e ≡ Expression.Number z → r ≡ real_part z → r ≡ to_real (tree_at m node)
  unfolding to_real grown
  number_real told p = of_node told p

  pub variable_no : {v : ℕ} → e ≡ Expression.Variable v → Err Refusal.NotANumber ≡ to_real (tree_at m node)
  unfolding to_real grown
  variable_no told = of_node told refl

  pub cell_no : {region index : ℕ} → e ≡ Expression.Address region index → Err Refusal.NotANumber ≡ to_real (tree_at m node)
  unfolding to_real grown
  cell_no told = of_node told refl

  pub function_no : {f : ExpressionFunction} {a : ℕ} → e ≡ Expression.FunctionCall f a → Err Refusal.NotANumber ≡ to_real (tree_at m node)
  unfolding to_real grown
  function_no told = of_node told refl

  pub prefix_no : {o : PrefixOperator} {a : ℕ} → e ≡ Expression.Prefix o a → Err Refusal.NotANumber ≡ to_real (tree_at m node)
  unfolding to_real grown
  prefix_no told = of_node told refl

  pub infix_no : {o : InfixOperator} {a b : ℕ} → e ≡ Expression.Infix o a b → Err Refusal.NotANumber ≡ to_real (tree_at m node)
  unfolding to_real grown
  infix_no told = of_node told refl
