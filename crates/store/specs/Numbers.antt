-- Nodes that are numbers, and nodes that become numbers while others are worked out. Only connecting.
use Rattle.std.specs.Prelude.{ℕ, ◌≤◌, ◌<◌, ◌≡◌, Bool, true, false, ◌⊎◌}
use Rattle.complex.specs.declared.Complex.{Complex}
use Rattle.complex.specs.Bits.{bits_of}
use Rattle.complex.specs.Constants.{of_parts}
use Rattle.expression.specs.Trees.{Tree}
use Rattle.expression.specs.declared.node.Expression.{Expression}
use Rattle.expression.specs.declared.node.Operands.{Operands}
use Rattle.expression.specs.Nodes.{operands_of, Within}
use Rattle.store.specs.declared.node.Fields.{Fields}
use Rattle.store.specs.Nodes.{expression_of}
use Rattle.store.specs.Memory.{Memory, with_row, room, fields_at, expression_at, tree_at}

-- a Boolean answer to a question
abbrev pub Tells : Bool → Type 0 → Type 0
Tells true A = A
Tells false A = A → ⊥

-- node k has the fields of a number, and this is the one
unfoldable pub NumberIn : Fields → Type 0
NumberIn f = expression_of f ≡ Expression.Number (of_parts f.first f.second)

abbrev pub IsNumber : Memory → ℕ → Type 0
IsNumber m k = NumberIn (fields_at m k)

unfoldable pub number_at : Memory → ℕ → Complex
number_at m k = of_parts (fields_at m k).first (fields_at m k).second

-- node i becomes the number z
abbrev pub with_number : Memory → (i : ℕ) → Complex → Memory
with_number m i z = with_row m i 1 (bits_of z.re) (bits_of z.im) 0

-- the operands of a node are numbers
abbrev pub Numbers : Memory → Operands → Type 0
Numbers m Operands.Nothing = Unit {0}
Numbers m (Operands.One a) = IsNumber m a
Numbers m (Operands.Two a b) = IsNumber m a × IsNumber m b

abbrev pub OverNumbers : Memory → ℕ → Type 0
OverNumbers m k = Numbers m (operands_of (expression_at m k))

-- the first n nodes stand in rows, each above its operands: less than a store, and all that it takes to go down from a node
pub record Ordered (m : Memory) (n : ℕ) : Type 0 where
  pub fits : n ≤ room m
  pub within : (k : ℕ) → k < n → Within k (expression_at m k)

-- from m to m' nodes became numbers, so that F of no node's tree is another
pub record Settling {A : Type 0} (F : Tree → A) (n : ℕ) (m m' : Memory) : Type 0 where
  pub ordered : Ordered m' n
  pub same : (k : ℕ) → k < n → F (tree_at m' k) ≡ F (tree_at m k)
  pub rows : (k : ℕ) → IsNumber m' k ⊎ (fields_at m' k ≡ fields_at m k)
