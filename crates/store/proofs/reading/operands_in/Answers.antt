-- `operands_in` meets its contract: by the kind. Assumes nothing.
use mathlib.Core.Path.{◌≡◌, refl}
use Prim.Native.Nat.{ℕ, zero, suc}
use Rattle.expression.specs.declared.node.Operands.{Operands}
use Rattle.expression.specs.Nodes.{operands_of}
use Rattle.store.specs.Nodes.{expression_as, expression_of}
use Rattle.store.proofs.reading.operands_in.Goals as goal

-- a kind that is none of the first six
both : (k o a b : ℕ)
    → ((((((Unit {0} × (k ≡ 1 → ⊥)) × (k ≡ 2 → ⊥)) × (k ≡ 3 → ⊥)) × (k ≡ 4 → ⊥)) × (k ≡ 5 → ⊥)) × (k ≡ 6 → ⊥))
    → Operands.Two a b ≡ operands_of (expression_as k o a b)
unfolding expression_as operands_of
both zero o a b h = refl
both (suc zero) o a b h = absurd (h.0.0.0.0.0.1 refl)
both (suc (suc zero)) o a b h = absurd (h.0.0.0.0.1 refl)
both (suc (suc (suc zero))) o a b h = absurd (h.0.0.0.1 refl)
both (suc (suc (suc (suc zero)))) o a b h = absurd (h.0.0.1 refl)
both (suc (suc (suc (suc (suc zero))))) o a b h = absurd (h.0.1 refl)
both (suc (suc (suc (suc (suc (suc zero)))))) o a b h = absurd (h.1 refl)
both (suc (suc (suc (suc (suc (suc (suc k))))))) o a b h = refl

pub returns-in-1 : goal.returns-in-1
unfolding expression_of expression_as operands_of
returns-in-1 c = rw c.in-1.is refl

pub returns-in-2 : goal.returns-in-2
unfolding expression_of expression_as operands_of
returns-in-2 c = rw c.in-2.is refl

pub returns-in-3 : goal.returns-in-3
unfolding expression_of expression_as operands_of
returns-in-3 c = rw c.in-3.is refl

pub returns-in-4 : goal.returns-in-4
unfolding expression_of expression_as operands_of
returns-in-4 c = rw c.in-4.is refl

pub returns-in-5 : goal.returns-in-5
unfolding expression_of expression_as operands_of
returns-in-5 c = rw c.in-5.is refl

pub returns-in-6 : goal.returns-in-6
unfolding expression_of expression_as operands_of
returns-in-6 c = rw c.in-6.is refl

pub returns-in_default : goal.returns-in_default
unfolding expression_of expression_as operands_of
returns-in_default c = both _ _ _ _ c.in_default.in_default-own.rest
