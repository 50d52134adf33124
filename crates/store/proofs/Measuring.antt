-- A node is measured by its operands. Assumes nothing.
use mathlib.Core.Path.{◌≡◌, refl, sym, ◌∙◌}
use Prim.Native.Nat.{ℕ, ◌+◌}
use Rattle.expression.specs.declared.node.Expression.{Expression}
use Rattle.expression.specs.declared.node.Operands.{Operands}
use Rattle.expression.specs.Nodes.{operands_of, measure_from}

module _ (both : ℕ → ℕ → ℕ) (of : ℕ → ℕ) where
  by_operands_lem : Operands → ℕ
  by_operands_lem Operands.Nothing = 1
  by_operands_lem (Operands.One a) = 1 + of a
  by_operands_lem (Operands.Two a b) = 1 + both (of a) (of b)

  measured : (e : Expression) → by_operands_lem (operands_of e) ≡ measure_from both of e
  unfolding operands_of measure_from by_operands_lem
  measured (Expression.Number z) = refl
  measured Expression.PiConstant = refl
  measured (Expression.Variable v) = refl
  measured (Expression.Address region index) = refl
  measured (Expression.FunctionCall f a) = refl
  measured (Expression.Prefix o a) = refl
  measured (Expression.Infix o a b) = refl

  -- by what the operands are
  pub measured_none : (e : Expression) {o : Operands} → o ≡ operands_of e → o ≡ Operands.Nothing → 1 ≡ measure_from both of e
  unfolding by_operands_lem
  measured_none e p q = rw (sym p ∙ q) at (measured e)

  pub measured_one : (e : Expression) {o : Operands} {a : ℕ} → o ≡ operands_of e → o ≡ Operands.One a → 1 + of a ≡ measure_from both of e
  unfolding by_operands_lem
  measured_one e p q = rw (sym p ∙ q) at (measured e)

  pub measured_two : (e : Expression) {o : Operands} {a b : ℕ} → o ≡ operands_of e → o ≡ Operands.Two a b → 1 + both (of a) (of b) ≡ measure_from both of e
  unfolding by_operands_lem
  measured_two e p q = rw (sym p ∙ q) at (measured e)
