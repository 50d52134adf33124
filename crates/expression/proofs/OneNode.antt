-- A node is determined by its tree, where the number of each operand can be told from the operand's tree: no two nodes of a store or lines of a
-- listing have one tree. Assumes nothing.
use mathlib.Core.Path.{◌≡◌, refl, sym, ap, ◌∙◌}
use Prim.Native.Nat.{ℕ, ◌<◌}
use Rattle.expression.specs.declared.node.Expression.{Expression}
use Rattle.expression.specs.Trees.{Tree, leaf, number, pi, variable, cell, function_call, prefixed, infixed}
use Rattle.expression.specs.Nodes.{grown, Within}

-- the node of a tree, where `of` tells the numbers of its operands
unfoldable pub node_by : (of : Tree → ℕ) → Tree → Expression
node_by of (leaf (number z)) = Expression.Number z
node_by of (leaf pi) = Expression.PiConstant
node_by of (leaf (variable v)) = Expression.Variable v
node_by of (leaf (cell region index)) = Expression.Address region index
node_by of (function_call f t) = Expression.FunctionCall f (of t)
node_by of (prefixed o t) = Expression.Prefix o (of t)
node_by of (infixed o l r) = Expression.Infix o (of l) (of r)

-- `of` tells the first n nodes by their trees
pub record ByTree (n : ℕ) (tree : ℕ → Tree) (of : Tree → ℕ) : Type 0 where
  pub number : (k : ℕ) → k < n → of (tree k) ≡ k

module _ {n : ℕ} {tree : ℕ → Tree} {of : Tree → ℕ} (t : ByTree n tree of) where
  pub node_back : (e : Expression) → Within n e → node_by of (grown tree e) ≡ e
  unfolding node_by grown
  node_back (Expression.Number z) w = refl
  node_back Expression.PiConstant w = refl
  node_back (Expression.Variable v) w = refl
  node_back (Expression.Address region index) w = refl
  node_back (Expression.FunctionCall f a) w = ap (Expression.FunctionCall f) (t.number a w)
  node_back (Expression.Prefix o a) w = ap (Expression.Prefix o) (t.number a w)
  node_back (Expression.Infix o a b) w = λ i. Expression.Infix o (t.number a w.0 i) (t.number b w.1 i)

  pub one_number_lem : (j k : ℕ) → j < n → k < n → tree j ≡ tree k → j ≡ k
  one_number_lem j k l l' e = sym (t.number j l) ∙ ap of e ∙ t.number k l'

  pub one_node : (e e' : Expression) → Within n e → Within n e' → grown tree e ≡ grown tree e' → e ≡ e'
  one_node e e' w w' p = sym (node_back e w) ∙ ap (node_by of) p ∙ node_back e' w'
