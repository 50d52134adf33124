-- 01's limits of size and depth, and of the numbers that a leaf has: which trees are within them, and which leaves a text can say. Definitions only.
use Rattle.std.specs.Prelude.{ℕ, ◌≤◌, ◌<◌}
use Rattle.complex.specs.Bits.{Fitting}
use Rattle.expression.specs.Trees.{Tree, Leaf, number, pi, variable, cell, leaf, function_call, prefixed, infixed, size, depth}

-- "a new node of size over 1,000,000", "a new node of depth over 64"
abbrev pub largest : ℕ
largest = 1000000

abbrev pub deepest : ℕ
deepest = 64

pub record Limited (t : Tree) : Type 0 where
  pub sized : size t ≤ largest
  pub shallow : depth t ≤ deepest

-- "Variable and region are 0 to 65535, index 0 to 4294967295": how many there are of each
abbrev pub numbers : ℕ
numbers = 65536

abbrev pub indices : ℕ
indices = 4294967296

-- a pair of doubles, and numbers that a text can say
abbrev pub ProperLeaf : Leaf → Type 0
ProperLeaf (number z) = Fitting z
ProperLeaf pi = Unit {0}
ProperLeaf (variable v) = v < numbers
ProperLeaf (cell region index) = (region < numbers) × (index < indices)

abbrev pub Proper : Tree → Type 0
Proper (leaf l) = ProperLeaf l
Proper (function_call f t) = Proper t
Proper (prefixed o t) = Proper t
Proper (infixed o l r) = Proper l × Proper r
