-- Which operands a node has, from what is told of them. Assumes nothing.
use mathlib.Core.Path.{◌≡◌, refl, sym, subst}
use Prim.Native.Nat.{ℕ, ◌<◌}
use Rattle.expression.specs.declared.node.Expression.{Expression}
use Rattle.expression.specs.declared.node.Operands.{Operands}
use Rattle.expression.specs.Nodes.{operands_of, Within}

unfoldable pub IsNothing : Operands → Type 0
IsNothing Operands.Nothing = Unit {0}
IsNothing (Operands.One a) = ⊥
IsNothing (Operands.Two a b) = ⊥

unfoldable pub IsOne : ℕ → Operands → Type 0
IsOne a Operands.Nothing = ⊥
IsOne a (Operands.One b) = b ≡ a
IsOne a (Operands.Two b c) = ⊥

unfoldable pub IsTwo : ℕ → ℕ → Operands → Type 0
IsTwo a b Operands.Nothing = ⊥
IsTwo a b (Operands.One c) = ⊥
IsTwo a b (Operands.Two c d) = (c ≡ a) × (d ≡ b)

pub nothing_under : (e : Expression) → operands_of e ≡ Operands.Nothing → IsNothing (operands_of e)
unfolding IsNothing
nothing_under e q = subst IsNothing (sym q) tt

pub one_under : (e : Expression) (a : ℕ) → operands_of e ≡ Operands.One a → IsOne a (operands_of e)
unfolding IsOne
one_under e a q = subst (IsOne a) (sym q) refl

pub two_under : (e : Expression) (a b : ℕ) → operands_of e ≡ Operands.Two a b → IsTwo a b (operands_of e)
unfolding IsTwo
two_under e a b q = subst (IsTwo a b) (sym q) (refl, refl)

pub within_one : (node : ℕ) (e : Expression) (a : ℕ) → operands_of e ≡ Operands.One a → Within node e → a < node
unfolding operands_of IsOne
within_one node (Expression.Number z) a q w = absurd (one_under (Expression.Number z) a q)
within_one node Expression.PiConstant a q w = absurd (one_under Expression.PiConstant a q)
within_one node (Expression.Variable v) a q w = absurd (one_under (Expression.Variable v) a q)
within_one node (Expression.Address region index) a q w = absurd (one_under (Expression.Address region index) a q)
within_one node (Expression.FunctionCall f b) a q w = rw (← one_under (Expression.FunctionCall f b) a q) w
within_one node (Expression.Prefix o b) a q w = rw (← one_under (Expression.Prefix o b) a q) w
within_one node (Expression.Infix o b c) a q w = absurd (one_under (Expression.Infix o b c) a q)

pub within_two : (node : ℕ) (e : Expression) (a b : ℕ) → operands_of e ≡ Operands.Two a b → Within node e → (a < node) × (b < node)
unfolding operands_of IsTwo
within_two node (Expression.Number z) a b q w = absurd (two_under (Expression.Number z) a b q)
within_two node Expression.PiConstant a b q w = absurd (two_under Expression.PiConstant a b q)
within_two node (Expression.Variable v) a b q w = absurd (two_under (Expression.Variable v) a b q)
within_two node (Expression.Address region index) a b q w = absurd (two_under (Expression.Address region index) a b q)
within_two node (Expression.FunctionCall f c) a b q w = absurd (two_under (Expression.FunctionCall f c) a b q)
within_two node (Expression.Prefix o c) a b q w = absurd (two_under (Expression.Prefix o c) a b q)
within_two node (Expression.Infix o c d) a b q w =
    let i = two_under (Expression.Infix o c d) a b q in
    (rw (← i.0) w.0, rw (← i.1) w.1)
