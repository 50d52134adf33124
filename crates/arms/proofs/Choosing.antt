-- Arms as plans: which plan each shape is, and a row of tests from the first on. Assumes nothing.
use mathlib.Core.Path.{◌≡◌, refl, sym, ap, ◌∙◌}
use mathlib.Core.Bool.{Bool, true, false}
use Prim.Native.Nat.{ℕ, ◌≤◌, ◌<◌}
use borrow.Author.Tests.{lt-ltb, le-ltb}
use Rattle.complex.specs.declared.Complex.{Complex}
use Rattle.complex.specs.Constants.{one_number, two_number}
use Rattle.expression.specs.declared.InfixOperator.{InfixOperator}
use Rattle.expression.specs.declared.PrefixOperator.{PrefixOperator}
use Rattle.expression.specs.declared.ExpressionFunction.{ExpressionFunction}
use Rattle.expression.specs.Trees.{Tree, number, leaf, function_call, prefixed, infixed}
use Rattle.expression.specs.declared.node.Expression.{Expression}
use Rattle.expression.specs.Nodes.{Within, grown}
use Rattle.store.specs.Memory.{Memory, size_at, tree_at, tree_of}
use Rattle.store.specs.Held.{Holds}
use Rattle.store.proofs.Stored.{read_size}
use Rattle.arms.specs.declared.Arm.{Arm}
use Rattle.arms.specs.declared.Outer.{Outer}
use Rattle.arms.specs.Arms.{Plan, arm_if, the, new, folded, called, negation, combined, S, lesser, affine, constant, minus, sum, smaller}
use Rattle.arms.specs.Ordered.{infix_plan}
use Rattle.arms.specs.Tables.{table_plan}
use Rattle.arms.specs.Choosing.{At, Chosen}
use Rattle.arms.proofs.Ordered.{by_tables}

-- a new node is this tree
pub record Makes (m : Memory) (n : ℕ) (e : Expression) (t : Tree) : Type 0 where
  pub within : Within n e
  pub tree : tree_of m e ≡ t

module _ {m : Memory} {n : ℕ} where
  -- ---- a row of tests

  pub hit : {b : Bool} {arm : Arm} {p : Plan} (q : Plan) → b ≡ true → Chosen m n arm p → Chosen m n arm (arm_if b p q)
  unfolding arm_if
  hit q e c = rw e c

  pub past : {b : Bool} {arm : Arm} {q : Plan} (p : Plan) → b ≡ false → Chosen m n arm q → Chosen m n arm (arm_if b p q)
  unfolding arm_if
  past p e c = rw e c

  pub planned : {arm : Arm} {p q : Plan} → p ≡ q → Chosen m n arm p → Chosen m n arm q
  planned e c = record { inside = c.inside; wants = c.wants ∙ e }

  -- what a table of the code chooses is the first match of 01's list
  pub tabled : (op : InfixOperator) (l r : Tree) {arm : Arm} {p : Plan} → p ≡ table_plan op l r → Chosen m n arm p → Chosen m n arm (infix_plan op l r)
  tabled op l r e c = planned (e ∙ sym (by_tables op l r)) c

  -- ---- new nodes

  pub infix_by : {o o' : InfixOperator} {a b : ℕ} {t u : Tree} → o ≡ o' → At m n a t → At m n b u → Makes m n (Expression.Infix o a b) (infixed o' t u)
  unfolding grown
  infix_by e a b = record { within = (a.inside, b.inside); tree = λ i. infixed (e i) (a.tree i) (b.tree i) }

  pub infix_of_lem : {o : InfixOperator} {a b : ℕ} {t u : Tree} → At m n a t → At m n b u → Makes m n (Expression.Infix o a b) (infixed o t u)
  infix_of_lem = infix_by refl

  pub minus_of : {a : ℕ} {t : Tree} → At m n a t → Makes m n (Expression.Prefix PrefixOperator.Minus a) (minus t)
  unfolding grown
  minus_of a = record { within = a.inside; tree = ap (prefixed PrefixOperator.Minus) a.tree }

  pub call_of : {f : ExpressionFunction} {a : ℕ} {t : Tree} → At m n a t → Makes m n (Expression.FunctionCall f a) (function_call f t)
  unfolding grown
  call_of {f} a = record { within = a.inside; tree = ap (function_call f) a.tree }

  pub numeral : {z w : Complex} → z ≡ w → Makes m n (Expression.Number z) (leaf (number w))
  unfolding grown
  numeral e = record { within = tt; tree = ap (λ z. leaf (number z)) e }

  -- ---- shapes

  pub use_it : {k : ℕ} {t : Tree} → At m n k t → Chosen m n (Arm.Use k) (the t)
  use_it a = record { inside = a.inside; wants = ap the a.tree }

  pub build : {e : Expression} {t : Tree} → Makes m n e t → Chosen m n (Arm.Build e) (new t)
  build e = record { inside = e.within; wants = ap new e.tree }

  pub fold : {o : InfixOperator} {x y z w : Complex} → x ≡ z → y ≡ w → Chosen m n (Arm.Fold o x y) (folded o z w)
  fold {o} p q = record { inside = tt; wants = λ i. folded o (p i) (q i) }

  pub call : {f : ExpressionFunction} {x z : Complex} → x ≡ z → Chosen m n (Arm.Call f x) (called f z)
  call {f} p = record { inside = tt; wants = ap (called f) p }

  pub again : {e : Expression} {t : Tree} → Makes m n e t → Chosen m n (Arm.Again e) (S (new t))
  again e = record { inside = e.within; wants = ap (λ t. S (new t)) e.tree }

  pub inverse : {k : ℕ} {t : Tree} → At m n k t → Chosen m n (Arm.Inverse k) (S (combined InfixOperator.Slash (constant one_number) (the t)))
  inverse a = record { inside = a.inside; wants = ap (λ t. S (combined InfixOperator.Slash (constant one_number) (the t))) a.tree }

  pub regroup : {e : Expression} {o : InfixOperator} {c : ℕ} {t u : Tree} → Makes m n e t → At m n c u
      → Chosen m n (Arm.Regroup e (Outer.Before o c)) (S (combined o (S (new t)) (the u)))
  regroup {o = o} e c = record { inside = (e.within, c.inside); wants = λ i. S (combined o (S (new (e.tree i))) (the (c.tree i))) }

  pub smaller_negated : {d e : Expression} {s t : Tree} → Makes m n d s → Makes m n e t
      → Chosen m n (Arm.Smaller d e Outer.Negated) (lesser (new s) (S (negation (S (new t)))))
  smaller_negated d e = record { inside = (d.within, e.within, tt); wants = λ i. lesser (new (d.tree i)) (S (negation (S (new (e.tree i))))) }

  pub smaller_before : {d e : Expression} {o : InfixOperator} {c : ℕ} {s t u : Tree} → Makes m n d s → Makes m n e t → At m n c u
      → Chosen m n (Arm.Smaller d e (Outer.Before o c)) (lesser (new s) (S (combined o (S (new t)) (the u))))
  smaller_before {o = o} d e c =
      record { inside = (d.within, e.within, c.inside); wants = λ i. lesser (new (d.tree i)) (S (combined o (S (new (e.tree i))) (the (c.tree i)))) }

  pub smaller_after : {d e : Expression} {o o' : InfixOperator} {a : ℕ} {s t u : Tree} → o ≡ o' → Makes m n d s → Makes m n e t → At m n a u
      → Chosen m n (Arm.Smaller d e (Outer.After a o)) (lesser (new s) (S (combined o' (the u) (S (new t)))))
  smaller_after p d e a =
      record { inside = (d.within, e.within, a.inside); wants = λ i. lesser (new (d.tree i)) (S (combined (p i) (the (a.tree i)) (S (new (e.tree i))))) }

  pub distribute : {d e f : Expression} {s t u : Tree} → Makes m n d s → Makes m n e t → Makes m n f u
      → Chosen m n (Arm.Distribute d e f) (lesser (new s) (S (combined InfixOperator.Plus (S (new t)) (S (new u)))))
  distribute d e f =
      record { inside = (d.within, e.within, f.within); wants = λ i. lesser (new (d.tree i)) (S (combined InfixOperator.Plus (S (new (e.tree i))) (S (new (f.tree i))))) }

  pub double : {x a b : ℕ} {t u v : Tree} → At m n x t → At m n a u → At m n b v
      → Chosen m n (Arm.Double x a b) (S (combined InfixOperator.Plus (S (combined InfixOperator.Star (constant two_number) (the t))) (S (new (sum u v)))))
  double x a b =
      record { inside = (x.inside, a.inside, b.inside); wants = λ i. S (combined InfixOperator.Plus (S (combined InfixOperator.Star (constant two_number) (the (x.tree i)))) (S (new (sum (a.tree i) (b.tree i))))) }

  pub affine_of : {d e : Expression} {x : ℕ} {s t u : Tree} → Makes m n d s → At m n x t → Makes m n e u → Chosen m n (Arm.Affine d x e) (affine s t u)
  affine_of d x e = record { inside = (d.within, x.inside, e.within); wants = λ i. affine (d.tree i) (x.tree i) (e.tree i) }

  -- ---- the smaller of two nodes

  module _ (h : Holds m n) {a b i j : ℕ} (la : a < n) (lb : b < n) (p : i ≡ size_at m a) (q : j ≡ size_at m b) where
    pub smaller_second : j < i → At m n b (smaller (tree_at m a) (tree_at m b))
    unfolding smaller
    smaller_second l = record { inside = lb; tree = rw (← read_size h a la p, ← read_size h b lb q, lt-ltb j i l) refl }

    pub smaller_first : i ≤ j → At m n a (smaller (tree_at m a) (tree_at m b))
    unfolding smaller
    smaller_first l = record { inside = la; tree = rw (← read_size h a la p, ← read_size h b lb q, le-ltb j i l) refl }
